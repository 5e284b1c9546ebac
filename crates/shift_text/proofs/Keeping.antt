-- More bytes of a line, of which the first 81 are kept.
use Rattle.std.proofs.Common.{◌≡◌, ℕ, ◌+◌, ◌-◌, ◌<◌, ◌≤◌, ◌≢◌, Bool, eqb, ltb, List, [], ◌∷◌, ◌++◌, length, get_or, min, set, take, Some, None, Option, sym, ap, ◌∙◌, inl, inr, append_assoc, arith, length-append, length-take, drop, drop-drop}
use Rattle.shift_text.specs.Buffers.{Fed, FeedAt, GoesOn, before_feed}
use Rattle.shift_text.specs.Lines.{kept}
use Rattle.std.proofs.Math.Nat.{min_comm}
use Rattle.std.proofs.Math.Seq.{take-append-add}
use Rattle.std.proofs.lemmas.Bool.{cases_lt, cond-true, eqb-true, lt-ltb}
use Rattle.std.proofs.lemmas.Bool.Decides.{nat_tests}
use Rattle.std.proofs.lemmas.List.{drop-set-lt, drop_min, get_or-drop, get_or-take, length-drop, take-append-le, take-take, take_all, take_min, take_more, take_more_set}
use Rattle.std.proofs.lemmas.List.Quantifiers.{position-Some}
use Rattle.std.proofs.lemmas.List.Sums.{fails_before_first}
use Rattle.std.proofs.lemmas.Option.{none-some}
use Rattle.std.specs.List.{position, position_or_len}

-- what is kept of the kept bytes and more is what is kept of the whole line and more
kept_append : (line bs : List ℕ) → kept (kept line ++ bs) ≡ kept (line ++ bs)
kept_append line bs =
    elim (cases_lt (length line) 81) [
      | inl short ↦ ap (λ l. kept (l ++ bs)) (take_all 81 line (omega arith))
      | inr long ↦
          take-append-le 81 (kept line) bs (omega (arith, length-take 81 line))
          ∙ take-take 81 81 line (omega arith)
          ∙ sym (take-append-le 81 line bs long)
    ]

pub goes_on : (before after bs : List ℕ) → after ≡ kept (before ++ bs) → GoesOn before after bs
goes_on before after bs e line holds = e ∙ ap (λ b. kept (b ++ bs)) holds ∙ kept_append line bs

-- as many bytes as there is room for
with_room : (b bs : List ℕ) (room : ℕ) → room + length b ≡ 81 → b ++ take (min (length bs) room) bs ≡ kept (b ++ bs)
with_room b bs room all =
    let whole : length b + room ≡ 81 = omega arith in
    ap (λ cs. b ++ cs) (ap (λ n. take n bs) (min_comm (length bs) room) ∙ take_min room bs)
    ∙ sym (take-append-add b bs room)
    ∙ ap (λ n. take n (b ++ bs)) whole

-- one byte more, where there is room
pub stored : (xs : List ℕ) (used byte : ℕ) → length xs ≡ 81 → used < 81 → take (used + 1) (set xs used byte) ≡ kept (take used xs ++ byte ∷ [])
stored xs used byte all room =
    let front = length-take used xs in
    let longer = length-append (take used xs) (byte ∷ []) in
    take_more_set xs used byte (omega arith) ∙ sym (take_all 81 (take used xs ++ byte ∷ []) (omega arith))

pub behind_stored : (xs : List ℕ) (used byte : ℕ) → drop (used + 1) (set xs used byte) ≡ drop 1 (drop used xs)
behind_stored xs used byte = drop-set-lt (used + 1) xs used byte (omega arith) ∙ sym (drop-drop 1 used xs)

-- and where there is none
pub not_stored : (b : List ℕ) (byte : ℕ) → length b ≡ 81 → b ≡ kept (b ++ byte ∷ [])
not_stored b byte full = sym (take_all 81 b (omega arith)) ∙ sym (take-append-le 81 b (byte ∷ []) (omega arith))

-- byte after byte: from the front of the places on, and behind it
pub placed : (xs ys bs : List ℕ) (begun i byte : ℕ) → length ys ≡ 81 → begun + i < 81 → i < length bs → byte ≡ get_or bs i 0 → take (begun + i) ys ≡ take begun xs ++ take i bs →
    take (begun + (i + 1)) (set ys (begun + i) byte) ≡ take begun xs ++ take (i + 1) bs
placed xs ys bs begun i byte all room within same is =
    let longer : take i bs ++ byte ∷ [] ≡ take (i + 1) bs = ap (λ x. take i bs ++ x ∷ []) same ∙ sym (take_more bs i 0 within) in
    let next : begun + (i + 1) ≡ begun + i + 1 = omega arith in
    ap (λ n. take n (set ys (begun + i) byte)) next
    ∙ take_more_set ys (begun + i) byte (omega arith)
    ∙ ap (λ cs. cs ++ byte ∷ []) is
    ∙ append_assoc (take begun xs) (take i bs) (byte ∷ [])
    ∙ ap (λ cs. take begun xs ++ cs) longer

pub behind_placed : (xs ys : List ℕ) (begun i byte : ℕ) → drop (begun + i) ys ≡ drop (begun + i) xs → drop (begun + (i + 1)) (set ys (begun + i) byte) ≡ drop (begun + (i + 1)) xs
behind_placed xs ys begun i byte is =
    let next : begun + (i + 1) ≡ begun + i + 1 = omega arith in
    ap (λ n. drop n (set ys (begun + i) byte)) next
    ∙ drop-set-lt (begun + i + 1) ys (begun + i) byte (omega arith)
    ∙ sym (drop-drop 1 (begun + i) ys)
    ∙ ap (drop 1) is
    ∙ drop-drop 1 (begun + i) xs
    ∙ ap (λ n. drop n xs) (sym next)

-- of no more bytes than are kept all are kept
few_kept : (before after bs : List ℕ) → length before + length bs ≤ 81 → after ≡ before ++ bs → after ≡ kept (before ++ bs)
few_kept before after bs few e = e ∙ sym (take_all 81 (before ++ bs) (omega (arith, length-append before bs)))

-- as many bytes as there is room for are as good as more
pub taken_all : (old after bs : List ℕ) (room n : ℕ) → length old ≤ 81 → room ≡ min (length bs) (81 - length old) → room ≤ n → n ≤ length bs → after ≡ kept (old ++ take room bs) →
    after ≡ kept (old ++ take n bs)
taken_all old after bs room n within is more inside e =
    let few = length-take n bs in
    let same : room ≡ min (length (take n bs)) (81 - length old) = omega arith in
    e
    ∙ ap (λ cs. kept (old ++ cs)) (sym (take-take room n bs more) ∙ ap (λ k. take k (take n bs)) same)
    ∙ ap kept (with_room old (take n bs) (81 - length old) (omega arith))
    ∙ take-take 81 81 (old ++ take n bs) (omega arith)

-- a byte is a line feed
abbrev pub feeds : ℕ → Bool
feeds b = eqb b 10

upto : (chunk : List ℕ) (r : Option ℕ) → FeedAt chunk r → before_feed chunk r ≤ length chunk
upto chunk None at = omega arith
upto chunk (Some p) at = omega (arith, at.0)

no_feed : (chunk : List ℕ) → None ≡ position feeds chunk → length chunk ≤ position_or_len feeds chunk
no_feed chunk e =
    let n = position_or_len feeds chunk in
    elim (cases_lt n (length chunk)) [
      | inl lt ↦ absurd (none-some n (e ∙ cond-true (ltb n (length chunk)) (Some n) None (lt-ltb n (length chunk) lt)))
      | inr ge ↦ ge
    ]

-- the place of the first line feed behind the first n bytes
pub none_behind : (n : ℕ) (chunk : List ℕ) → None ≡ position feeds (drop n chunk) → (k : ℕ) → n ≤ k → k < length chunk → get_or chunk k 0 ≢ 10
none_behind n chunk is k from within =
    let past = no_feed (drop n chunk) is in
    let long = length-drop n chunk in
    let f = fails_before_first feeds (drop n chunk) (k - n) 0 (omega arith) in
    let same = get_or-drop n chunk (k - n) 0 in
    let place : n + (k - n) ≡ k = omega arith in
    let here = same ∙ ap (λ j. get_or chunk j 0) place in
    grind (arith, nat_tests)

pub first_behind : (n i : ℕ) (chunk : List ℕ) → Some i ≡ position feeds (drop n chunk) →
    (n + i < length chunk) × (get_or chunk (n + i) 0 ≡ 10) × ((k : ℕ) → n ≤ k → k < n + i → get_or chunk k 0 ≢ 10)
first_behind n i chunk is =
    let p = position-Some feeds (drop n chunk) i 0 (sym is) in
    let long = length-drop n chunk in (
      omega (arith, p.0, long),
      sym (get_or-drop n chunk i 0) ∙ eqb-true (get_or (drop n chunk) i 0) 10 p.1,
      λ k from lt.
          let f = p.2 (k - n) (omega arith) in
          let same = get_or-drop n chunk (k - n) 0 in
          let place : n + (k - n) ≡ k = omega arith in
          let here = same ∙ ap (λ j. get_or chunk j 0) place in
          grind (arith, nat_tests),
    )

-- the chunk up to its first line feed
pub fed : (before after chunk : List ℕ) (r : Option ℕ) → FeedAt chunk r → ((k : ℕ) → k < before_feed chunk r → get_or chunk k 0 ≢ 10) →
    after ≡ kept (before ++ take (before_feed chunk r) chunk) → Fed before after chunk r
fed before after chunk r at first e = record { place = at; first = first; taken = goes_on before after (take (before_feed chunk r) chunk) e }

-- found in the first n bytes, for which there is room
pub kept_near : (before after chunk : List ℕ) (n p : ℕ) → length before + n ≤ 81 → FeedAt (take n chunk) (Some p) → after ≡ before ++ take p (take n chunk) →
    after ≡ kept (before ++ take p chunk)
kept_near before after chunk n p room at e =
    let few = length-take n chunk in
    let near = length-take p (take n chunk) in
    few_kept before after (take p (take n chunk)) (omega (arith, at.0, few, near)) e ∙ ap (λ bs. kept (before ++ bs)) (take-take p n chunk (omega (arith, at.0, few)))

pub found_near : (before after chunk : List ℕ) (n p : ℕ) → length before + n ≤ 81 → FeedAt (take n chunk) (Some p) → ((k : ℕ) → k < p → get_or (take n chunk) k 0 ≢ 10) →
    after ≡ before ++ take p (take n chunk) → Fed before after chunk (Some p)
found_near before after chunk n p room at first e =
    let few = length-take n chunk in
    let near : p < n = omega (arith, at.0, few) in
    fed before after chunk (Some p)
    (omega (arith, at.0, few), sym (get_or-take n chunk p 0 near) ∙ at.1)
    (λ k lt is. first k lt (get_or-take n chunk k 0 (omega arith) ∙ is))
    (kept_near before after chunk n p room at e)

-- and not found there: as many bytes were taken as there was room for
pub kept_all : (before after chunk : List ℕ) (n : ℕ) (r : Option ℕ) → length before ≤ 81 → n ≡ min (length chunk) (81 - length before) → FeedAt chunk r → n ≤ before_feed chunk r →
    after ≡ before ++ take (length (take n chunk)) (take n chunk) → after ≡ kept (before ++ take (before_feed chunk r) chunk)
kept_all before after chunk n r within is at from e =
    let few = length-take n chunk in
    let whole = take_all (length (take n chunk)) (take n chunk) (omega arith) in
    taken_all before after chunk n (before_feed chunk r) within is from (upto chunk r at)
    (few_kept before after (take n chunk) (omega arith) (e ∙ ap (λ bs. before ++ bs) whole))

-- and behind the line as many fewer lie
pub behind_all : (beyond chunk : List ℕ) (n : ℕ) (r : Option ℕ) → n ≡ min (length chunk) (length beyond) → FeedAt chunk r → n ≤ before_feed chunk r →
    drop (length (take n chunk)) beyond ≡ drop (before_feed chunk r) beyond
behind_all beyond chunk n r is at from =
    let few = length-take n chunk in
    let within = upto chunk r at in
    let same : length (take n chunk) ≡ min (before_feed chunk r) (length beyond) = omega arith in
    ap (λ k. drop k beyond) same ∙ drop_min (before_feed chunk r) beyond

pub not_near : (before after chunk : List ℕ) (n : ℕ) (r : Option ℕ) → length before ≤ 81 → n ≡ min (length chunk) (81 - length before) → FeedAt chunk r → n ≤ before_feed chunk r →
    ((k : ℕ) → k < length (take n chunk) → get_or (take n chunk) k 0 ≢ 10) → ((k : ℕ) → n ≤ k → k < before_feed chunk r → get_or chunk k 0 ≢ 10) →
    after ≡ before ++ take (length (take n chunk)) (take n chunk) → Fed before after chunk r
not_near before after chunk n r within is at from near far e =
    let few = length-take n chunk in
    let whole : length (take n chunk) ≡ n = omega arith in
    fed before after chunk r at
    (λ k lt.
    elim (cases_lt k n) [
      | inl below ↦ λ is10. near k (omega (arith, whole)) (get_or-take n chunk k 0 below ∙ is10)
      | inr behind ↦ far k behind lt
    ])
    (kept_all before after chunk n r within is at from e)
