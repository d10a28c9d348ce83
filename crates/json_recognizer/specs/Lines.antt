-- Lines and columns of a stream: how many lines end in some bytes, and what stands behind the last line end.
use Rattle.std.specs.Prelude.{ℕ, ◌+◌, ◌-◌, ◌^◌, ◌==◌, min, not, List, drop, count_by}
use Rattle.std.specs.List.{position_or_len, suffix_len}
use Rattle.json_recognizer.specs.declared.buffer.piece.LineColumn.{LineColumn}

-- what is behind the first line end; nothing, where there is none
abbrev pub behind_line : List ℕ → List ℕ
behind_line bytes = drop (position_or_len (λ byte. byte == 10) bytes + 1) bytes

-- how many lines end in the bytes
abbrev pub line_ends : List ℕ → ℕ
line_ends bytes = count_by (λ byte. byte == 10) bytes

-- how many bytes stand behind the last line end; all, where no line ends
abbrev pub last_line_len : List ℕ → ℕ
last_line_len bytes = suffix_len (λ byte. not (byte == 10)) bytes

-- what can be counted
abbrev pub counted : ℕ → ℕ
counted n = min n (2 ^ 64 - 1)

-- The place of the byte that comes behind these: its line is one more than the line ends before it, its column one more than the bytes since the last of them.
abbrev pub place_behind : List ℕ → LineColumn
place_behind bytes = record { line = counted (line_ends bytes + 1); column = counted (last_line_len bytes + 1) }

-- the place of the last of these bytes, by its column; column 0 where they end with a line
abbrev pub place_at_end : List ℕ → LineColumn
place_at_end bytes = let behind = place_behind bytes in record behind { column = behind.column - 1 }
