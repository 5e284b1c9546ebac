-- A line buffer is what a contract sees of it: two that are cut alike are the same.
use Rattle.std.proofs.Common.{◌≡◌, ◌≤◌, ◌++◌, length, length-take, sym, ap, ◌∙◌, arith}
use Rattle.std.proofs.Math.Bridge.{le_prop}
use Rattle.std.proofs.Math.Nat.{ℕ_set}
use Rattle.std.proofs.lemmas.List.{take-append-drop}
use Rattle.shift_text.specs.LineBuffers.{buffer}
use Rattle.shift_text.specs.declared.line_buffer.LineBuffer.{LineBuffer}
use mathlib.Core.HLevel.{is_prop→PathP}

pub same_line : (a b : LineBuffer) → buffer a ≡ buffer b → a ≡ b
same_line a b e =
    let bytes : a.bytes ≡ b.bytes = sym (take-append-drop a.used a.bytes) ∙ ap (λ v. v.kept ++ v.beyond) e ∙ take-append-drop b.used b.bytes in
    let used : a.used ≡ b.used = omega (arith, ap (λ v. length v.kept) e, length-take a.used a.bytes, length-take b.used b.bytes, a.room, a.within, b.room, b.within) in
    λ i. record {
      bytes = bytes i;
      used = used i;
      room = is_prop→PathP (λ j. length (bytes j) ≡ 81) (λ j. ℕ_set _ _) a.room b.room i;
      within = is_prop→PathP (λ j. used j ≤ 81) (λ j. le_prop {n = used j}) a.within b.within i;
    }
