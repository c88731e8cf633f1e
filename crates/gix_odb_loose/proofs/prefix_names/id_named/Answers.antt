use Rattle.std.proofs.Common.{◌++◌, take, sym, ap, ◌∙◌}
use Rattle.gix_hash.specs.Kind.{digits_in}
use Rattle.gix_hash.specs.ObjectId.{hex_of, kind_of}
use Rattle.gix_hash.specs.declared.object_id.ObjectId.{ObjectId}
use Rattle.gix_odb_loose.proofs.PrefixNamesLemmas.{named_by, none_named}
use Rattle.gix_odb_loose.proofs.prefix_names.id_named.Goals as goal

pub returns-then-name-len_in_hex : goal.returns-then-name-len_in_hex
returns-then-name-len_in_hex c =
    let digits = c.len_in_hex.ensures.digits ∙ ap digits_in (c.kind.ensures.kind ∙ ap kind_of c.as_oid-id.ensures.id) in
    record { named = none_named c.args.prefix.now c.args.name.now (λ same. c.if-name-len_in_hex.true (same ∙ sym digits)) }

pub returns : goal.returns
returns c =
    let digits = c.len_in_hex.ensures.digits ∙ ap digits_in (c.kind.ensures.kind ∙ ap kind_of c.as_oid-id.ensures.id) in
    let text = c.as_str.ensures.value ∙ (c.in_ok-text.ensures.text ∙ ap (λ (id : ObjectId). take 2 (hex_of id) ++ c.args.name.now) c.as_oid-id.ensures.id) in
    record { named = c.with_prefix.ensures.id ∙ named_by c.args.prefix.now c.args.name.now _ (c.if-name-len_in_hex.false ∙ digits) text }
