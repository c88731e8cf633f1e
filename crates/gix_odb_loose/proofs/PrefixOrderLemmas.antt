-- The matches that a look-up of a prefix has left, one after the other.
use Rattle.std.proofs.Common.{◌≡◌, true, false, cond, List, [], ◌∷◌, refl, sym, ap, ◌∙◌}
use Rattle.gix_hash.specs.declared.object_id.ObjectId.{ObjectId}
use Rattle.gix_odb_loose.specs.NameSet.{taken}
use Rattle.gix_odb_loose.specs.PrefixOrder.{done, is_settled, more, next, with_taken}
use Rattle.gix_odb_loose.specs.declared.prefix_search.Match.{Match}
use Rattle.gix_odb_loose.specs.declared.prefix_search.Match.TheVariants.{File, Link}
use Rattle.gix_odb_loose.specs.declared.prefix_search.SearchHead.{SearchHead}
use Rattle.gix_odb_loose.specs.declared.prefix_search.SearchStage.TheVariants as stages
use Rattle.gix_odb_loose.specs.declared.prefix_search.SearchStep.{SearchStep}

-- there is none
pub none_next : (head : SearchHead) (left : List Match) (whole : SearchStep) → left ≡ [] → next head left ≡ whole → whole ≡ done head
none_next head left whole is was = sym was ∙ ap (next head) is

-- nothing more is asked
settled_by : (head : SearchHead) (left : List Match) → is_settled head ≡ true → next head left ≡ done head
settled_by head [] settled = refl
settled_by head (File id ∷ left) settled = ap (λ b. cond b (done head) (next (with_taken head id) left)) settled
settled_by head (Link id ∷ left) settled = ap (λ b. cond b (done head) (more head (stages.Linked id left))) settled

pub settled_next : (head : SearchHead) (left : List Match) (whole : SearchStep) → is_settled head ≡ true → next head left ≡ whole → whole ≡ done head
settled_next head left whole settled was = sym was ∙ settled_by head left settled

-- a link is followed
pub link_next : (head : SearchHead) (id : ObjectId) (left rest : List Match) (whole : SearchStep) → is_settled head ≡ false → left ≡ Link id ∷ rest → next head left ≡ whole
    → whole ≡ more head (stages.Linked id rest)
link_next head id left rest whole unsettled is was =
    sym was ∙ ap (next head) is ∙ ap (λ b. cond b (done head) (more head (stages.Linked id rest))) unsettled

-- a file is taken
pub file_next : (head : SearchHead) (id : ObjectId) (left rest : List Match) (names : List ObjectId) (whole : SearchStep) → is_settled head ≡ false → left ≡ File id ∷ rest → names ≡ taken head.names id
    → next head left ≡ whole → next (record head { names = names }) rest ≡ whole
file_next head id left rest names whole unsettled is more_names was =
    ap (λ (ids : List ObjectId). next (record head { names = ids }) rest) more_names
    ∙ sym (ap (λ b. cond b (done head) (next (with_taken head id) rest)) unsettled) ∙ sym (ap (next head) is) ∙ was
