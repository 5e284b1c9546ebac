-- Many clean quarters.
use Rattle.std.specs.Prelude.{ℕ, zero, suc, ◌<◌}
use Rattle.rules.specs.Model.{Laws, Model, cleans}

-- they lead from a state to a state
pub cleans_stay : (m : Model) → Laws m → (n s : ℕ) → s < m.size → cleans m n s < m.size
cleans_stay m laws zero s h = h
cleans_stay m laws (suc n) s h = laws.clean_stays _ (cleans_stay m laws n s h)
