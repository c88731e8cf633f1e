-- Lemmas on what a worker sends of an iterator's items, and on what is taken of it.
use Rattle.std.proofs.Common.{◌≡◌, true, List, [], ◌∷◌, ◌++◌, map, refl, sym, ap, ◌∙◌, subst, append_assoc, Option, None}
use Rattle.std.proofs.lemmas.List.{append-nil, map-append}
use Rattle.std.specs.Iterator.{Yields, Drains}
use Rattle.std.specs.declared.alloc.Global.{Global}
use Rattle.std.specs.declared.vec.Vec.{Vec}
use Rattle.std.specs.declared.snapshot.Snapshot.{Snapshot}
use Rattle.gix_features_channel.specs.declared.ends.Hand.{Hand}
use Rattle.gix_features_channel.specs.Ends.{hand, Begins}
use Rattle.gix_features_channel.specs.declared.messages.Message.{Message}
use Rattle.gix_features_channel.specs.declared.messages.Message.TheVariants.{Begun, Chunk, Whole}
use Rattle.gix_features_channel.specs.Messages.{items_in, HaveBegun, Tells, IsTold, IsSent, AreTaken}

items_in-push : {T : Type 0} (chunks : List (Vec T Global)) (chunk : Vec T Global) → items_in (chunks ++ chunk ∷ []) ≡ items_in chunks ++ chunk.items
items_in-push [] chunk = append-nil chunk.items
items_in-push (c ∷ chunks) chunk = ap (λ l. c.items ++ l) (items_in-push chunks chunk) ∙ sym (append_assoc c.items (items_in chunks) chunk.items)

nothing_behind : {X : Type 0} (before : List X) (x : X) (rest : List X) → before ++ x ∷ rest ≡ [] → ⊥
nothing_behind [] x rest none = cc none
nothing_behind (y ∷ before) x rest none = cc none

module _ {I T : Type 0} (steps : I → Option T → I → Type 0) where
  -- items, and then more items
  pub Yields-append : (s j t : I) (xs ys : List T) → Yields steps s xs j → Yields steps j ys t → Yields steps s (xs ++ ys) t
  Yields-append s j t [] ys none more = subst (λ (i : I). Yields steps i ys t) (sym none) more
  Yields-append s j t (x ∷ xs) ys some more = (some.0, some.1, Yields-append some.0 j t xs ys some.2 more)

  -- one more chunk
  pub Tells-push : (s i j : I) (chunks : List (Vec T Global)) (chunk : Vec T Global) → Tells steps s (map Chunk chunks) i → Yields steps i chunk.items j
      → Tells steps s (map Chunk (chunks ++ chunk ∷ [])) j
  Tells-push s i j [] chunk none more = (j, subst (λ (k : I). Yields steps k chunk.items j) (sym none) more, refl)
  Tells-push s i j (c ∷ chunks) chunk some more = (some.0, some.1, Tells-push some.0 i j chunks chunk some.2 more)

  -- and that there are no more
  Tells-end : (s i u : I) (chunks : List (Vec T Global)) → Tells steps s (map Chunk chunks) i → steps i None u
      → (t : I) × Tells steps s (map Chunk chunks ++ Whole ∷ []) t
  Tells-end s i u [] none ends = (s, (refl, u, subst (λ (k : I). steps k None u) (sym none) ends))
  Tells-end s i u (c ∷ chunks) some ends = let rest = Tells-end some.0 i u chunks some.2 ends in (rest.0, (some.0, some.1, rest.1))

  -- what chunks say
  Tells-chunks : (s t : I) (chunks : List (Vec T Global)) (chunk : Vec T Global) (rest : List (Message I T)) → Tells steps s (map Chunk chunks ++ Chunk chunk ∷ rest) t
      → (j : I) × Yields steps s (items_in (chunks ++ chunk ∷ [])) j
  Tells-chunks s t [] chunk rest told = (told.0, subst (λ (l : List T). Yields steps s l told.0) (sym (append-nil chunk.items)) told.1)
  Tells-chunks s t (c ∷ chunks) chunk rest told = let more = Tells-chunks told.0 t chunks chunk rest told.2 in
      (more.0, Yields-append s told.0 more.0 c.items (items_in (chunks ++ chunk ∷ [])) told.1 more.1)

  -- what chunks and the last message say
  Tells-whole : (s t : I) (chunks : List (Vec T Global)) (rest : List (Message I T)) → Tells steps s (map Chunk chunks ++ Whole ∷ rest) t → Drains steps s (items_in chunks)
  Tells-whole s t [] rest told = (told.1, (s, refl, told.2))
  Tells-whole s t (c ∷ chunks) rest told = let more = Tells-whole told.0 t chunks rest told.2 in
      (more.0, (more.1.0, Yields-append s told.0 more.1.0 c.items (items_in chunks) told.1 more.1.1, more.1.2))

  -- ---- what the worker may send

  pub told_begun : (start : Snapshot I) → IsTold steps ([] ++ Begun start ∷ [])
  told_begun start = (start.value, refl)

  pub sent_begun : (start : Snapshot I) (sent : List (Message I T)) (at : I) → sent ≡ [] ++ Begun start ∷ [] → start.value ≡ at → IsSent steps sent at
  sent_begun start sent at is from = record { start = start; chunks = []; messages = is; tells = from }

  pub sent_chunk : (sent now : List (Message I T)) (i j : I) (chunk : Vec T Global) → IsSent steps sent i → Yields steps i chunk.items j
      → now ≡ sent ++ Chunk chunk ∷ [] → IsSent steps now j
  sent_chunk sent now i j chunk was more is = record {
    start = was.start;
    chunks = was.chunks ++ chunk ∷ [];
    messages = is ∙ ap (λ (l : List (Message I T)). l ++ Chunk chunk ∷ []) was.messages ∙ ap (λ (l : List (Message I T)). Begun was.start ∷ l) (sym (map-append Chunk was.chunks (chunk ∷ [])));
    tells = Tells-push was.start.value i j was.chunks chunk was.tells more;
  }

  -- a chunk is sent, up to a state that has another name
  pub sent_chunk_to : (sent now : List (Message I T)) (i j k : I) (chunk : Vec T Global) → IsSent steps sent i → Yields steps i chunk.items j → j ≡ k
      → now ≡ sent ++ Chunk chunk ∷ [] → IsSent steps now k
  sent_chunk_to sent now i j k chunk was more same is = subst (λ (t : I). IsSent steps now t) same (sent_chunk sent now i j chunk was more is)

  pub told_sent : (sent : List (Message I T)) (i : I) → IsSent steps sent i → IsTold steps sent
  told_sent sent i was = subst (IsTold steps) (sym was.messages) (i, was.tells)

  pub told_whole : (sent : List (Message I T)) (i u : I) → IsSent steps sent i → steps i None u → IsTold steps (sent ++ Whole ∷ [])
  told_whole sent i u was ends = subst (λ (l : List (Message I T)). IsTold steps (l ++ Whole ∷ [])) (sym was.messages) (Tells-end was.start.value i u was.chunks was.tells ends)

  -- ---- what is taken

  pub taken_chunk : (first : I) (taken now : List (Message I T)) (items : List T) (chunk : Vec T Global) → AreTaken first taken items → now ≡ taken ++ Chunk chunk ∷ []
      → Begins (IsTold steps) (taken ++ Chunk chunk ∷ []) → AreTaken first now (items ++ chunk.items) × (t : I) × Yields steps first (items ++ chunk.items) t
  taken_chunk first taken now items chunk was is begins =
      let all : items_in (was.chunks ++ chunk ∷ []) ≡ items ++ chunk.items = items_in-push was.chunks chunk ∙ ap (λ (l : List T). l ++ chunk.items) (sym was.in_chunks) in
      let told = subst (λ (l : List (Message I T)). IsTold steps ((l ++ Chunk chunk ∷ []) ++ begins.0)) was.messages begins.1 in
      let told' = subst (λ (l : List (Message I T)). (t : I) × Tells steps was.start.value l t) (append_assoc (map Chunk was.chunks) (Chunk chunk ∷ []) begins.0) told in
      let drawn = Tells-chunks was.start.value told'.0 was.chunks chunk begins.0 told'.1 in (
        record {
          start = was.start;
          chunks = was.chunks ++ chunk ∷ [];
          messages = is ∙ ap (λ (l : List (Message I T)). l ++ Chunk chunk ∷ []) was.messages ∙ ap (λ (l : List (Message I T)). Begun was.start ∷ l) (sym (map-append Chunk was.chunks (chunk ∷ [])));
          from_first = was.from_first;
          in_chunks = sym all;
        },
        drawn.0,
        subst (λ (l : List T). Yields steps first l drawn.0) all (subst (λ (s : I). Yields steps s (items_in (was.chunks ++ chunk ∷ [])) drawn.0) was.from_first drawn.1),
      )

  pub taken_whole : (first : I) (taken : List (Message I T)) (items : List T) → AreTaken first taken items → Begins (IsTold steps) (taken ++ Whole ∷ []) → Drains steps first items
  taken_whole first taken items was begins =
      let told = subst (λ (l : List (Message I T)). IsTold steps ((l ++ Whole ∷ []) ++ begins.0)) was.messages begins.1 in
      let told' = subst (λ (l : List (Message I T)). (t : I) × Tells steps was.start.value l t) (append_assoc (map Chunk was.chunks) (Whole ∷ []) begins.0) told in
      subst (Drains steps first) (sym was.in_chunks) (subst (λ (s : I). Drains steps s (items_in was.chunks)) was.from_first
      (Tells-whole was.start.value told'.0 was.chunks begins.0 told'.1))

  -- ---- the first message, after which no other is like it

  -- a second one leads nowhere
  Tells-begun : (s t : I) (start : Snapshot I) (before rest : List (Message I T)) → Tells steps s (before ++ Begun start ∷ rest) t → ⊥
  Tells-begun s t start [] rest told = told
  Tells-begun s t start (Begun other ∷ before) rest told = told
  Tells-begun s t start (Chunk chunk ∷ before) rest told = Tells-begun told.0 t start before rest told.2
  Tells-begun s t start (Whole ∷ before) rest told = nothing_behind before (Begun start) rest told.0

  pub taken_begun : (start : Snapshot I) (taken : List (Message I T)) → HaveBegun taken → Begins (IsTold steps) (taken ++ Begun start ∷ []) → ⊥
  taken_begun start taken was begins =
      let told = subst (λ (l : List (Message I T)). IsTold steps ((l ++ Begun start ∷ []) ++ begins.0)) was.begun begins.1 in
      let told' = subst (λ (l : List (Message I T)). (t : I) × Tells steps was.start.value l t) (append_assoc was.rest (Begun start ∷ []) begins.0) told in
      Tells-begun was.start.value told'.0 start was.rest begins.0 told'.1

-- what was taken from the first on has begun, and so has what is taken after it
pub begun_from_taken : {I T : Type 0} (first : I) (taken : List (Message I T)) (items : List T) → AreTaken first taken items → HaveBegun taken
begun_from_taken first taken items was = record { start = was.start; rest = map Chunk was.chunks; begun = was.messages }

pub begun_further : {I T : Type 0} (message : Message I T) (v w : Hand (Message I T)) → HaveBegun v.taken → w ≡ hand v.sends v.takes v.sent (v.taken ++ message ∷ []) → HaveBegun w.taken
begun_further {I = I} {T = T} message v w was is = record {
  start = was.start;
  rest = was.rest ++ message ∷ [];
  begun = ap (λ (u : Hand (Message I T)). u.taken) is ∙ ap (λ (l : List (Message I T)). l ++ message ∷ []) was.begun;
}
