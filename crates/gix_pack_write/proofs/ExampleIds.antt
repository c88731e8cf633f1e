-- The bytes of two ids in the worked examples of the formats.
use Rattle.std.proofs.Common.{ℕ, List, [], ◌∷◌}

-- 1f7a7a472abf3dd9643fd615f6da379c4acb3e3a, and 83baae61804e65cc73a7201a7252750c76066a30
unfoldable pub second : List ℕ
second = 31 ∷ 122 ∷ 122 ∷ 71 ∷ 42 ∷ 191 ∷ 61 ∷ 217 ∷ 100 ∷ 63 ∷ 214 ∷ 21 ∷ 246 ∷ 218 ∷ 55 ∷ 156 ∷ 74 ∷ 203 ∷ 62 ∷ 58 ∷ []

unfoldable pub first : List ℕ
first = 131 ∷ 186 ∷ 174 ∷ 97 ∷ 128 ∷ 78 ∷ 101 ∷ 204 ∷ 115 ∷ 167 ∷ 32 ∷ 26 ∷ 114 ∷ 82 ∷ 117 ∷ 12 ∷ 118 ∷ 6 ∷ 106 ∷ 48 ∷ []
