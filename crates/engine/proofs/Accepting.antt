-- Which tiles find takes.
use Rattle.std.proofs.Common.{◌≡◌, ℕ, ◌*◌, ◌&&◌, eqb, leb, [], ◌∷◌, length, IfOk, Some, None, Ok, Err, Option, Result, refl}
use Rattle.std.proofs.lemmas.Bool.{and_parts, leb-true, eqb-true}
use Rattle.grids.specs.declared.Refusal.{Refusal}
use Rattle.grids.specs.Grids.{Tile, Valid}
use Rattle.grids.specs.Refusals.{first_failed, between, unless, numbered}
use Rattle.grids.proofs.Refusing.{passed, passed_both}
use Rattle.engine.specs.Finding.{tile_checks, find_refusal}

-- what holds where there is no refusal holds of an answer
pub made_when : {X : Type 0} (P : Type 0) (r : Result X Refusal) (o : Option ℕ) (x : X) → numbered r ≡ unless o x → (o ≡ None → P) → IfOk r (λ _. P)
made_when P (Ok y) None x e f = f refl
made_when P (Ok y) (Some n) x e f = absurd cc
made_when P (Err y) o x e f = tt

-- a tile that passes its checks is valid
pub valid_checked : {C : Type 0} (t : Tile C) → first_failed (tile_checks t) ≡ None → Valid t
valid_checked t e =
    let whole = eqb (length t.cells) (t.rows * t.cols) in
    let sized = passed (between 1 32 t.rows && between 1 32 t.cols) 1 ((whole, 2) ∷ []) e in
    let size = and_parts (between 1 32 t.rows) (between 1 32 t.cols) sized.0 in
    let rows = and_parts (leb 1 t.rows) (leb t.rows 32) size.0 in
    let cols = and_parts (leb 1 t.cols) (leb t.cols 32) size.1 in
    record {
      some_rows = leb-true 1 t.rows rows.0;
      few_rows = leb-true t.rows 32 rows.1;
      some_cols = leb-true 1 t.cols cols.0;
      few_cols = leb-true t.cols 32 cols.1;
      whole = eqb-true (length t.cells) (t.rows * t.cols) (passed whole 2 [] sized.1).0;
    }

module _ {C : Type 0} (t : Tile C) (w : ℕ) where
  -- a tile that find does not refuse is valid
  pub valid_when : find_refusal t w ≡ None → Valid t
  valid_when e = valid_checked t (passed_both (tile_checks t) ((leb 12288 w, 8) ∷ []) e).0
