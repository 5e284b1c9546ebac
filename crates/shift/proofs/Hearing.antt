-- A line that is cut at 81 bytes is heard as the whole line.
use Rattle.std.proofs.Common.{◌≡◌, ℕ, cond, List, [], ◌∷◌, refl, ap, ◌∙◌, ap₂}
use Rattle.shift.specs.Answers.{heard, unheard}
use Rattle.shift_text.proofs.Cutting.{call_kept}
use Rattle.shift_text.specs.Lines.{kept, malformed}

unheard_kept : (line : List ℕ) → unheard (kept line) ≡ unheard line
unheard_kept [] = refl
unheard_kept (b ∷ bs) = refl

pub heard_kept : (bs line : List ℕ) → bs ≡ kept line → heard bs ≡ heard line
heard_kept bs line k = ap₂ (λ u c. cond u (malformed 1) c) (ap unheard k ∙ unheard_kept line) (call_kept bs line k)
