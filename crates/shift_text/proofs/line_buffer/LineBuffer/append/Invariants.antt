use Rattle.std.proofs.Common.{◌≡◌, ◌≢◌, ℕ, ◌+◌, ◌<◌, ◌++◌, drop, get_or, length, take}
use Rattle.shift_text.proofs.line_buffer.LineBuffer.append.Given as goal

abbrev pub invariant-loop-place : goal.invariant-loop-place
invariant-loop-place l =
    ((k : ℕ) → k < l.place → get_or l.bytes k 0 ≢ 10)
    × (length l.self.bytes ≡ 81)
    × (take (l.begun + l.place) l.self.bytes ≡ take l.begun l.initial.self.bytes ++ take l.place l.bytes)
    × (drop (l.begun + l.place) l.self.bytes ≡ drop (l.begun + l.place) l.initial.self.bytes)
