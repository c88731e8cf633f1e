use Rattle.std.proofs.Common.{◌<◌, ◌+◌, ◌∙◌, length, drop, sym, ap, arith}
use Rattle.odb_disk.specs.Tree.{tree_of_entries}
use Rattle.odb_mem_disk.specs.TreeMoves.{with_copies}
use Rattle.odb_mem_disk.proofs.TreeMovesLemmas.{copies_more, copies_others}
use Rattle.odb_mem_disk.proofs.node_moves.put_copies.Goals as goal

pub loop-i-preserved : goal.loop-i-preserved
loop-i-preserved c =
    let u = tree_of_entries c.loop-i.nodes.entries in
    let ss = c.args.sources.now in
    let ds = c.args.targets.now in
    let i = c.loop-i.i in
    let hs : i < length ss = omega arith in
    let hd : i < length ds = omega arith in
    let s = c.index-sources-i.result in
    let d = c.index-targets-i.result in
    record {
      whole =
          ap (λ v. with_copies v (drop (i + 1) ss) (drop (i + 1) ds)) c.in_ok-put_copy.ensures.made ∙ sym (copies_more u ss ds i s d hs hd c.index-sources-i.is c.index-targets-i.is)
          ∙ c.loop-i.invariant.whole;
      others = λ q other. copies_others u _ ds i s d q hd c.index-targets-i.is c.in_ok-put_copy.ensures.made other ∙ c.loop-i.invariant.others q other;
    }
