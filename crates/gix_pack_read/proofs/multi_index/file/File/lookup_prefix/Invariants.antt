use Rattle.gix_pack_read.proofs.multi_index.file.File.lookup_prefix.Given as goal

abbrev pub ghosts-lookup_prefix_uncounted : goal.ghosts-lookup_prefix_uncounted
ghosts-lookup_prefix_uncounted a = record { name = a.blank.name; parts = a.blank.parts }
