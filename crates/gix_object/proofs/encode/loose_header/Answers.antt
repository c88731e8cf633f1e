use Rattle.std.proofs.Common.{rules, ◌≡◌}
use Rattle.gix_object.specs.Loose.{header_of}
use Rattle.gix_object.proofs.LooseLaws.{IsLoose-header_of, length-header_of-fits, loose_of-header_of}
use Rattle.gix_object.proofs.encode.loose_header.Goals as goal

pub returns-clause-grammar : goal.returns-clause-grammar
unfolding header_of
returns-clause-grammar c =
    let same : c.from_vec.result ≡ header_of c.args.kind c.args.size = search rules in
    rw same (λ rest. IsLoose-header_of c.args.kind c.args.size rest c.ranges.size.fits)

pub returns-clause-read_back : goal.returns-clause-read_back
unfolding header_of
returns-clause-read_back c =
    let same : c.from_vec.result ≡ header_of c.args.kind c.args.size = search rules in
    rw same (λ rest. loose_of-header_of c.args.kind c.args.size rest c.ranges.size.fits)

pub returns-clause-short : goal.returns-clause-short
unfolding header_of
returns-clause-short c =
    let same : c.from_vec.result ≡ header_of c.args.kind c.args.size = search rules in
    rw same (length-header_of-fits c.args.kind c.args.size c.ranges.size.fits)
