use Rattle.std.proofs.Common.{◌≡◌, sym, ◌∙◌, rules}
use Rattle.gix_hash.specs.Prefix.{prefix_cmp}
use Rattle.gix_hash.proofs.PrefixLaws.{HasPrefix-from_Equal, Equal-from_HasPrefix}
use Rattle.gix_hash.proofs.prefix.Prefix.cmp_oid.Goals as goal

pub returns-in-Equal-clause-equal : goal.returns-in-Equal-clause-equal
returns-in-Equal-clause-equal c =
    let order : c.cmp_digits.result ≡ prefix_cmp c.args.self.now c.args.id.now = search rules in
    (λ h. HasPrefix-from_Equal _ _ (sym order ∙ h), λ has. order ∙ Equal-from_HasPrefix _ _ has)
