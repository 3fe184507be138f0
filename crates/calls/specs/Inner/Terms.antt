-- Terms of contracts inside the crate.
use Rattle.std.specs.Prelude.{ℕ, cond, List}
use Rattle.indices.specs.Area.{written}
use Rattle.calls.specs.declared.request.Request.{Request}
use Rattle.calls.specs.Status.{is_answer}
use Rattle.calls.specs.GetIndices.{run_for, list_status}

-- the area that a call leaves
unfoldable pub list_area : List ℕ → Request → List ℕ → List ℕ
list_area i q area = cond (is_answer (list_status i q)) (written area (run_for i q)) area
