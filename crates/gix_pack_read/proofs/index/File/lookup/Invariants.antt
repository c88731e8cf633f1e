use Rattle.gix_pack_read.proofs.index.File.lookup.Given as goal

abbrev pub ghosts-lookup_uncounted : goal.ghosts-lookup_uncounted
ghosts-lookup_uncounted a = record { name = a.blank.name; parts = a.blank.parts }
