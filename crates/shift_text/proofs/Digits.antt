-- What reading one digit more makes of a number.
use Rattle.std.proofs.Common.{◌≡◌, ℕ, ◌+◌, ◌-◌, ◌*◌, ◌^◌, ◌<◌, ◌≤◌, List, [], ◌∷◌, ◌++◌, length, get_or, take, drop, decimal, sym, ap, ◌∙◌, inl, append_assoc, arith}
use lib.Arith.{digits_div, digits_mod}
use Rattle.std.proofs.lemmas.Fmt.{decimal_digit, decimal_step}
use Rattle.std.proofs.lemmas.List.{take_rest}
use Rattle.shift_text.specs.Numbers.{Digit, Lengthened, Longest}

decimal_longer : (v b : ℕ) → 0 < v → v < 10000 → Digit b → decimal (v * 10 + (b - 48)) ≡ decimal v ++ (b ∷ [])
decimal_longer v b pos small digit =
    let under : b - 48 < 10 = omega arith in
    let big : v * 10 + (b - 48) < 2 ^ 64 = omega arith in
    let back : 48 + (b - 48) ≡ b = omega arith in
    decimal_step (v * 10 + (b - 48)) (omega arith) big ∙ simp (digits_div v under, digits_mod v under, back)

longer : (v b : ℕ) (bs : List ℕ) → 0 < v → v < 10000 → Digit b → decimal (v * 10 + (b - 48)) ++ bs ≡ decimal v ++ (b ∷ bs)
longer v b bs pos small digit = simp (decimal_longer v b pos small digit, append_assoc)

lengthened_cons : (v b w : ℕ) (bs rest : List ℕ) → 0 < v → v < 10000 → Digit b → Lengthened (v * 10 + (b - 48)) bs w rest → Lengthened v (b ∷ bs) w rest
lengthened_cons v b w bs rest pos small digit (positive, begins) =
    (positive, record { small = begins.small; whole = sym (longer v b bs pos small digit) ∙ begins.whole; ends = begins.ends })

-- one digit more was read
pub lengthened_more : (v w : ℕ) (bs rest : List ℕ) → 1 ≤ length bs → 0 < v → v < 10000 → 48 ≤ get_or bs 0 0 → get_or bs 0 0 ≤ 57 →
    Lengthened (v * 10 + (get_or bs 0 0 - 48)) (take (length bs - 1) (drop 1 bs)) w rest → Lengthened v bs w rest
lengthened_more v w [] rest some pos small low high more = absurd (omega arith)
lengthened_more v w (b ∷ bs) rest some pos small low high more =
    lengthened_cons v b w bs rest pos small (low, high) (rw (take_rest (b ∷ bs) 1) at more)

-- 0 was read
pub longest_zero : (bs : List ℕ) → 1 ≤ length bs → get_or bs 0 0 ≡ 48 → Longest bs 0 (take (length bs - 1) (drop 1 bs))
longest_zero [] some zero = absurd (omega arith)
longest_zero (b ∷ bs) some zero =
    inl (record { small = omega arith; whole = simp (zero, take_rest (b ∷ bs) 1, decimal_digit 0 (omega arith)); ends = λ pos. absurd (omega arith) })

-- the first digit was read, and then those behind it
pub longest_more : (w : ℕ) (bs rest : List ℕ) → 1 ≤ length bs → 49 ≤ get_or bs 0 0 → get_or bs 0 0 ≤ 57 →
    Lengthened (get_or bs 0 0 - 48) (take (length bs - 1) (drop 1 bs)) w rest → Longest bs w rest
longest_more w [] rest some low high more = absurd (omega arith)
longest_more w (b ∷ bs) rest some low high more =
    let back : 48 + (b - 48) ≡ b = omega arith in
    let first : decimal (b - 48) ≡ b ∷ [] = decimal_digit (b - 48) (omega arith) ∙ simp back in
    let begins = (rw (take_rest (b ∷ bs) 1) at more).1 in
    inl (record { small = begins.small; whole = sym (ap (λ ds. ds ++ bs) first) ∙ begins.whole; ends = begins.ends })
