-- The state of an iterator in order, by its fields.
use Rattle.std.specs.Prelude.{◌≡◌, ℕ, false}
use Rattle.std.specs.Ordering.{nat_cmp}
use Rattle.std.specs.Iterator.{Count, IsFinite, at_most, count_add, count_unless}
use Rattle.std.specs.BTreeMap.{get, btree_map_len}
use Rattle.gix_features_parts.specs.InOrder.{At, Waiting, CameBefore}
use Rattle.gix_features_parts.specs.declared.parallel.in_order.InOrderIter.{InOrderIter}
use Rattle.gix_features_parts.specs.declared.parallel.in_order.InOrderError.{InOrderError}
use Rattle.gix_features_parts.specs.declared.parallel.in_order.InOrderError.TheVariants.{Inner, OutOfSequence, NoMemory}

abbrev pub in_order_at : {T I : Type 0} → InOrderIter T I → At I T
in_order_at iter = record { inner = iter.inner; next = iter.next; waiting = get nat_cmp iter.waiting; is_over = iter.is_over }

-- an iterator in order by its inner one: whether it may be asked, and how many items it gives at most
abbrev pub can_draw : {T I : Type 0} → (I → Type 0) → (I → Count) → InOrderIter T I → Type 0
can_draw can left iter = iter.is_over ≡ false → can iter.inner × IsFinite (left iter.inner)

abbrev pub left_in_order : {T I : Type 0} → (I → Count) → InOrderIter T I → Count
left_in_order left iter = count_unless iter.is_over (count_add (left iter.inner) (at_most (btree_map_len iter.waiting)))

-- why an item isn't kept: its number came before; or it didn't, and memory ran out
abbrev pub IsRefusal : {T E : Type 0} → ℕ → Waiting T → ℕ → InOrderError E → Type 0
IsRefusal next waiting number (Inner error) = ⊥
IsRefusal next waiting number (OutOfSequence got turn) = CameBefore next waiting number × (got ≡ number) × (turn ≡ next)
IsRefusal next waiting number NoMemory = ¬ CameBefore next waiting number
