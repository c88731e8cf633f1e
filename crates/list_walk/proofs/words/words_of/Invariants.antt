use Rattle.std.proofs.Common.{◌≡◌, length, map}
use Rattle.std.specs.String.{string_bytes}
use Rattle.list_walk.specs.Words.{no_words, words_of}
use Rattle.list_walk.proofs.words.words_of.Given as goal

-- the words that are left give, after those that are read, what all give
abbrev pub invariant-loop-rest : goal.invariant-loop-rest
invariant-loop-rest l = words_of l.home l.read (map (λ word. string_bytes word) l.rest) ≡ words_of l.home no_words (map (λ word. string_bytes word) l.initial.rest)

abbrev pub decreases-loop-rest : goal.decreases-loop-rest
decreases-loop-rest l = length l.rest
