-- The bytes that are parsed are those of the file, which is short enough and begins like an index.
use Rattle.std.proofs.Common.{◌≡◌, ◌≤◌, length, Some, arith}
use Rattle.probe_index.specs.declared.probe.Format.TheVariants.{Index}
use Rattle.probe_index.specs.Probe.{file_limit, format_of}
use Rattle.probe_index.proofs.ProbeLemmas.{answered-index}
use Rattle.probe_index.proofs.probe.answer_file.Goals as goal

pub returns-in-Some-Index : goal.returns-in-Some-Index
returns-in-Some-Index c =
    let format : format_of c.args.bytes.items ≡ Some Index = cc (c.in-Some-Index.ensures.format, c.in-Some-Index.field-0-is, c.deref.ensures.value) in
    let short : length c.args.bytes.items ≤ file_limit = omega arith in
    record {
      writes = answered-index c.answer_index.result (λ a. a.0.items)
          (λ a. a.1) c.args.asked.now c.args.bytes.items c.from_vec.result c.from_vec.ensures.bytes short format c.answer_index.ensures.writes;
    }
