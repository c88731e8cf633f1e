-- Why a file is refused, in words: on standard output, and after more words on standard error.
use Rattle.std.specs.Prelude.{ℕ, List, ◌++◌, codes}
use Rattle.probe_index.specs.declared.probe.Refusal.{Refusal}
use Rattle.probe_index.specs.declared.probe.Refusal.TheVariants.{TooLong, Unknown, BadIndex, BadMultiIndex}

abbrev pub reason_text : Refusal → List ℕ
reason_text TooLong = codes "more than 1073741824 bytes"
reason_text Unknown = codes "neither a pack index nor a multi-pack index"
reason_text BadIndex = codes "no pack index of version 2 with ids of this length"
reason_text BadMultiIndex = codes "no multi-pack index of version 1"

-- the line on standard output
abbrev pub refusal_text : Refusal → List ℕ
refusal_text why = codes "refused: " ++ (reason_text why ++ codes "\n")
