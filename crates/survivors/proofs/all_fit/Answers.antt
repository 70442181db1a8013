-- `survivors::all_fit` meets its contract: after p turns the survivors of the first p positions fit.
-- Assumes nothing.
use mathlib.Core.Path.{◌≡◌, refl, sym, ◌∙◌, subst}
use mathlib.Core.Bool.{true}
use Prim.Native.Nat.{ℕ, ◌/◌}
use native.Mathlib.Omega.{arith}
use Rattle.stripes.specs.Fold.{every}
use Rattle.stripes.specs.Erased.{erasures}
use Rattle.model.specs.Grid.{layout_of}
use Rattle.model.proofs.Grid.{sector-some}
use Rattle.survivors.proofs.ByPosition.{fits_at, positioned, held_at, fits-none, fits_next, fits_all, unfit_at}
use Rattle.survivors.proofs.all_fit.Goals as goal

pub nonzero_div-sectors : goal.nonzero_div-sectors
nonzero_div-sectors c = sector-some c.args.block c.args.sector c.requires.sectored.sector

pub loop-p-init : goal.loop-p-init
loop-p-init c = fits-none c.args.grid.numbered c.requires.sectored c.args.map.now

pub position_fits-requires : goal.position_fits-requires
position_fits-requires c =
    let m = c.args.map.now in
    let place = c.loop-p-test.true in
    let numbered = c.args.grid.numbered in
    let record { sectored = held; map_value = fits } = c.requires in
    record {
      held = held_at numbered held m place refl;
      positioned = positioned numbered held m place fits;
    }

pub returns-then-not-position_fits : goal.returns-then-not-position_fits
returns-then-not-position_fits c =
    unfit_at c.args.grid.numbered c.requires.sectored c.args.map.now c.loop-p.p c.loop-p-test.true
    (sym c.position_fits.ensures ∙ c.if-not-position_fits.true)

pub loop-p-preserved : goal.loop-p-preserved
loop-p-preserved c =
    let l = c.loop-p in
    fits_next c.args.grid.numbered c.requires.sectored c.args.map.now l.p l.invariant
    (sym c.position_fits.ensures ∙ c.if-not-position_fits.false)

pub returns : goal.returns
returns c =
    let a = c.args in
    let l = c.loop-p in
    let all : l.p ≡ a.block / a.sector = omega arith in
    fits_all c.args.grid.numbered c.requires.sectored a.map.now
    (subst (λ (k : ℕ). every k (fits_at (layout_of a.grid.size a.grid.base) a.block a.sector (erasures a.map.now) a.array.now) ≡ true)
    all l.invariant)
