-- Each sector position is an array by itself (paper 02, P6): where rebuild, follow and save are not refused, each position has the bytes that
-- what is done there alone leaves.
-- Assumes nothing.
use mathlib.Core.Path.{◌≡◌, refl, sym, ◌∙◌, ap, subst}
use mathlib.Core.Bool.{Bool, true, cond}
use mathlib.Core.List.{List}
use Prim.Native.Nat.{ℕ, ◌*◌, ◌/◌, ◌<◌}
use native.Mathlib.Nat.{le_refl}
use borrow.Author.Tests.{eqb-true}
use lib.Dec.{eqb}
use lib.ListN.{length, take}
use Rattle.stripes.specs.Fold.{count}
use Rattle.stripes.specs.System.{Layout, whole}
use Rattle.stripes.specs.Erased.{erasures}
use Rattle.stripes.specs.Repair.{Entry, rebuilt}
use Rattle.stripes.specs.Undetermined.{determined, saved}
use Rattle.stripes.specs.Sectors.{sectored, at_position, stretch_at, rising, sector_repairs, of_position}
use Rattle.stripes.proofs.Fold.{by_cases}
use Rattle.stripes.proofs.Positions.{first_of}
use Rattle.stripes.proofs.EachPosition.{rebuilt-alone, saved-alone}
use Rattle.model.specs.Grid.{layout_of, column_base, array_bytes, sector_fits}
use Rattle.model.specs.Sheet.{narrow, sheet_at}
use Rattle.model.specs.Chain.{chain_entries}
use Rattle.model.specs.Plan.{sheet_layout, outcome_status}
use Rattle.model.specs.Turn.{repairs_made}
use Rattle.model.specs.Rebuild.{buffer_tests, buffer_refusal, rebuild_turn}
use Rattle.model.specs.Follow.{sheets_entries, follow_tests, follow_status, follow_outcome, follow_array}
use Rattle.model.specs.Save.{save_layout, map_tests, save_tests, save_status, save_answer, save_array, saving_status}
use Rattle.model.specs.Demand2.{SameAt}
use Rattle.model.specs.declared.Size.{Size}
use Rattle.model.specs.Saving.{Saved, Refused}
use Rattle.model.proofs.Grid.{rows-below, layout-disks, layout-two, sector-cut}
use Rattle.model.proofs.Refusal.{ArrayFits, first-accepted}
use Rattle.model.proofs.Accept.{buffers_fit, rebuild_fits}
use Rattle.model.proofs.Demand3.{turn_made}
use Rattle.model.proofs.Follow.{follow_given, status_is}
use Rattle.model.proofs.Save.{map_fits_lem}

module _ (z : Size) (B w : ℕ) (a : List ℕ) (fits : ArrayFits z B (length a)) (sector : sector_fits B w ≡ true) where
  sized : (base : ℕ) → length a ≡ (layout_of z base).disks * B
  unfolding array_bytes
  sized base = fits.long ∙ ap (λ (k : ℕ). k * B) (sym (layout-disks z base))

  -- Repairs of sectors, positions in rising order.
  repairs-alone : (base : ℕ) (g : ℕ → List Entry) (p : ℕ) → p < B / w
      → SameAt z B w p (rebuilt (sectored (B / w) (layout_of z base)) (whole w) a (rising (B / w) g (B / w)))
      (rebuilt (layout_of z base) (stretch_at B w p) a (g p))
  repairs-alone base g p place d l =
      rebuilt-alone (B / w) w B (sector-cut B w sector) (layout_of z base) a (sized base) g (B / w) (le_refl (B / w)) p place d
      (rw (layout-disks z base) l)

-- A turn of rebuild.
pub turn_alone : (z : Size) (B w : ℕ) (a m s : List ℕ) (k : ℕ) → outcome_status (rebuild_turn z B w a m s k).answer ≡ 0
    → (p : ℕ) → p < B / w
    → SameAt z B w p (rebuild_turn z B w a m s k).array
    (rebuilt (sheet_layout z) (stretch_at B w p) a (of_position (B / w) p (take k (sector_repairs (B / w) (sheet_layout z) (erasures m)))))
unfolding repairs_made
turn_alone z B w a m s k accepted p place =
    let n : ℕ = B / w in
    let L : Layout = sheet_layout z in
    let v : List Entry = take k (sector_repairs n L (erasures m)) in
    let (ok, made) = turn_made z B w a m s k accepted in
    let fits = buffers_fit z B w a m s (rebuild_fits z B w a m s k ok).0 in
    rw made
    (subst (λ (u : List Entry). SameAt z B w p (rebuilt (sectored n L) (whole w) a u) (rebuilt L (stretch_at B w p) a (of_position n p v)))
    (first_of n L (erasures m) k)
    (repairs-alone z B w a fits.array fits.sector narrow.base (λ p. of_position n p v) p place))

-- Follow.
pub follow_alone : (z : Size) (B w : ℕ) (a m s : List ℕ) → outcome_status (follow_outcome z B w a m s) ≡ 0 → (p : ℕ) → p < B / w
    → SameAt z B w p (follow_array z B w a m s) (rebuilt (sheet_layout z) (stretch_at B w p) a (chain_entries narrow (sheet_at narrow p s)))
unfolding follow_status follow_tests sheets_entries buffer_refusal
follow_alone z B w a m s accepted p place =
    let zero : follow_status z B w a m s ≡ 0 = sym (status_is z B w a m s) ∙ accepted in
    let fits = buffers_fit z B w a m s (first-accepted (buffer_tests z B w (length a) m (length s)) _ zero) in
    rw (follow_given z B w a m s 0 zero).1
    (repairs-alone z B w a fits.array fits.sector narrow.base (λ p. chain_entries narrow (sheet_at narrow p s)) p place)

-- Save.
module _ (z : Size) (B w : ℕ) (a m : List ℕ) where
  abbrev L : Layout
  L = layout_of z (column_base z)

  saving-is : saving_status (save_answer z B w a m) ≡ save_status z B w a m
  unfolding save_answer saving_status
  saving-is =
      let k = save_status z B w a m in
      by_cases
      (λ (t : Bool).
      saving_status (cond t (Saved (count (save_layout z (B / w)).disks (determined (save_layout z (B / w)) (erasures m)))) (Refused k)) ≡ k)
      (eqb k 0) (λ e. sym (eqb-true k 0 e)) (λ e. refl)

  pub save_alone : saving_status (save_answer z B w a m) ≡ 0 → (p : ℕ) → p < B / w
      → SameAt z B w p (save_array z B w a m) (saved L (stretch_at B w p) a (at_position (B / w) p (erasures m)))
  unfolding save_array save_status save_tests
  save_alone accepted p place d l =
      let zero : save_status z B w a m ≡ 0 = sym saving-is ∙ accepted in
      let fits = map_fits_lem z B w a m (first-accepted (map_tests z B w (length a) m) _ zero) in
      rw zero
      (saved-alone (B / w) w B (sector-cut B w fits.sector) L (layout-two z (column_base z) (rows-below z fits.array.size)) a
      (sized z B w a fits.array fits.sector (column_base z)) (erasures m) p place d (rw (layout-disks z (column_base z)) l))
