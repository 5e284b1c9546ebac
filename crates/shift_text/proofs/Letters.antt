-- A first field of one byte, by the first two bytes of the fields.
use Rattle.std.proofs.Common.{◌≡◌, ℕ, ◌-◌, ◌<◌, ◌≤◌, List, [], ◌∷◌, length, get_or, take, drop, Some, None, refl, ap, ◌∙◌, arith}
use Rattle.std.proofs.lemmas.List.{take_all}
use Rattle.shift_text.specs.Fields.{fields, first, one_byte, onto}
use Rattle.shift_text.proofs.Splitting.{cut, fields_byte}

pub byte_tab : (bs : List ℕ) → 1 ≤ length bs → get_or bs 0 0 ≡ 9 → first one_byte (fields bs) ≡ None
byte_tab [] some tab = absurd (omega arith)
byte_tab (b ∷ bs) some tab = simp tab

pub byte_alone : (bs : List ℕ) → length bs ≡ 1 → (get_or bs 0 0 ≡ 9 → ⊥) → first one_byte (fields bs) ≡ Some (get_or bs 0 0, [])
byte_alone [] one ne = absurd (omega arith)
byte_alone (b ∷ []) one ne = ap (first one_byte) (fields_byte b [] ne)
byte_alone (b ∷ c ∷ bs) one ne = absurd (omega arith)

pub byte_more : (bs : List ℕ) → 2 ≤ length bs → (get_or bs 0 0 ≡ 9 → ⊥) → get_or bs 1 0 ≡ 9 → first one_byte (fields bs) ≡ Some (get_or bs 0 0, fields (take (length bs - 2) (drop 2 bs)))
byte_more [] two ne tab = absurd (omega arith)
byte_more (b ∷ []) two ne tab = absurd (omega arith)
byte_more (b ∷ c ∷ bs) two ne tab =
    ap (first one_byte) (fields_byte b (c ∷ bs) ne) ∙ simp (tab, take_all (length (b ∷ c ∷ bs) - 2) bs (omega arith))

pub byte_none : (bs : List ℕ) → length bs < 1 → first one_byte (fields bs) ≡ None
byte_none [] none = refl
byte_none (b ∷ bs) none = absurd (omega arith)

pub byte_wrong : (bs : List ℕ) → 2 ≤ length bs → (get_or bs 0 0 ≡ 9 → ⊥) → (get_or bs 1 0 ≡ 9 → ⊥) → first one_byte (fields bs) ≡ None
byte_wrong [] two ne me = absurd (omega arith)
byte_wrong (b ∷ []) two ne me = absurd (omega arith)
byte_wrong (b ∷ c ∷ bs) two ne me =
    let k = cut bs in
    let split = fields_byte b (c ∷ bs) ne ∙ ap (onto b) (fields_byte c bs me ∙ ap (onto c) k.is) in
    ap (first one_byte) split

pub ruleset by_first_bytes = (byte_none, byte_tab, byte_alone, byte_more, byte_wrong)
