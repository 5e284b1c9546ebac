-- What is kept of a line while it is read: the list of its first bytes.
use Rattle.std.specs.Prelude.{◌≡◌, ℕ, ◌+◌, ◌<◌, List, ◌++◌, length, take, Some, None, Option, ◌≢◌, slice_index}
use Rattle.shift_text.specs.Lines.{kept as first_bytes}

-- The bytes of a buffer: those that are kept of a line, and those behind them.
pub record Buffer : Type 0 where
  pub kept : List ℕ
  pub beyond : List ℕ

-- the buffer has room for 81 bytes
abbrev pub HasRoom : Buffer → Type 0
HasRoom b = length b.kept + length b.beyond ≡ 81

-- the buffer has what is kept of the line
abbrev pub Holds : List ℕ → List ℕ → Type 0
Holds b line = b ≡ first_bytes line

-- With the bytes bs more, the buffer goes on from what is kept of a line to what is kept of the line with those bytes.
abbrev pub GoesOn : List ℕ → List ℕ → List ℕ → Type 0
GoesOn before after bs = (line : List ℕ) → Holds before line → Holds after (line ++ bs)

-- how many bytes stand before the line feed, if there is one
abbrev pub before_feed : List ℕ → Option ℕ → ℕ
before_feed chunk None = length chunk
before_feed chunk (Some place) = place

-- a line feed stands at the place, if one is given
abbrev pub FeedAt : List ℕ → Option ℕ → Type 0
FeedAt chunk None = Unit {0}
FeedAt chunk (Some place) = (place < length chunk) × (slice_index chunk place ≡ 10)

-- The buffer took the bytes of the chunk that stand before its first line feed, whose place is answered.
pub record Fed (before after : List ℕ) (chunk : List ℕ) (r : Option ℕ) : Type 0 where
  pub place : FeedAt chunk r
  pub first : (k : ℕ) → k < before_feed chunk r → slice_index chunk k ≢ 10
  pub taken : GoesOn before after (take (before_feed chunk r) chunk)
