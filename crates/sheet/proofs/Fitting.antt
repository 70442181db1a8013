-- Lists in words of what fits a sheet of paper 01.
-- Assumes nothing.
use mathlib.Core.Path.{◌≡◌, sym, ap, subst}
use mathlib.Core.List.{List}
use Prim.Native.Nat.{ℕ, ◌≤◌, ◌<◌}
use native.Mathlib.Omega.{arith}
use Rattle.stripes.specs.Repair.{Entry, disk_of, stripe_of}
use Rattle.model.specs.Sheet.{narrow}
use Rattle.model.proofs.Sheets.{Fitting}
use Rattle.entries.specs.Listed.{entry_disk, entry_stripe, listed}
use Rattle.entries.proofs.Words.{listed_at, listed-length}

-- So many words with small numbers.
pub record Small (list : List ℕ) (count : ℕ) : Type 0 where
  pub few : count ≤ 32
  pub disk : (i : ℕ) → i < count → entry_disk list i < 256
  pub stripe : (i : ℕ) → i < count → entry_stripe list i < 256

pub listed-fits : {w : List Entry} → Fitting narrow w → (list : List ℕ) (count : ℕ) → listed list count ≡ w → Small list count
unfolding disk_of stripe_of
listed-fits fitting list count same =
    let fits : Fitting narrow (listed list count) = subst (Fitting narrow) (sym same) fitting in
    let long = listed-length list count in
    let few = fits.room in
    record {
      few = omega arith;
      disk = λ i l.
          let is : disk_of (listed list count) i ≡ entry_disk list i = ap (λ (r : Entry). r.disk) (listed_at list count i l _) in
          let low = fits.disk i (omega arith) in
          omega arith;
      stripe = λ i l.
          let is : stripe_of (listed list count) i ≡ entry_stripe list i = ap (λ (r : Entry). r.stripe) (listed_at list count i l _) in
          let low = fits.stripe i (omega arith) in
          omega arith;
    }
