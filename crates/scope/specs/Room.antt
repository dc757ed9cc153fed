-- Room, in words of each lent table, by S, R and H. Assumes nothing.
use Rattle.std.specs.Prelude.{ℕ, ◌+◌, ◌*◌, max}
use Rattle.scope.specs.Limits.{record_stride}

-- open table: 4H + dx + 2 u32 words
unfoldable pub open_words : ℕ → ℕ → ℕ
open_words dx h = 4 * h + dx + 2

-- link table: 2S u32 words
unfoldable pub link_words : ℕ → ℕ
link_words s = 2 * s

-- points: S + R of them, two words each, u16 for rings and contours and f64 for lines
unfoldable pub point_count : ℕ → ℕ → ℕ
point_count s r = s + r

unfoldable pub point_words : ℕ → ℕ → ℕ
point_words s r = 2 * point_count s r

-- directory: one record a ring
unfoldable pub directory_words : ℕ → ℕ
directory_words r = record_stride * r

-- a band needs the sums of its two sets' points and rings, and the larger of their H and S
unfoldable pub band_open_words : ℕ → ℕ → ℕ → ℕ
band_open_words dx lower_h upper_h = open_words dx (max lower_h upper_h)

unfoldable pub band_link_words : ℕ → ℕ → ℕ
band_link_words lower_s upper_s = link_words (max lower_s upper_s)

unfoldable pub band_point_words : ℕ → ℕ → ℕ → ℕ → ℕ
band_point_words lower_s lower_r upper_s upper_r = point_words lower_s lower_r + point_words upper_s upper_r

unfoldable pub band_directory_words : ℕ → ℕ → ℕ
band_directory_words lower_r upper_r = directory_words (lower_r + upper_r)
