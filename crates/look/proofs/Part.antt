-- The part that look hands back: empty where a test fails, and else the disk's block.
-- Assumes nothing.
use mathlib.Core.Path.{◌≡◌, refl, sym, ap}
use mathlib.Core.Bool.{Bool, true, false}
use mathlib.Core.Logic.{◌↔◌}
use mathlib.Core.List.{List, []}
use Prim.Native.Nat.{ℕ, ◌+◌, ◌*◌, ◌-◌, ◌/◌, ◌<◌}
use native.Mathlib.Nat.{add-zero, add_comm, add-sub_cancel_left}
use lib.ListN.{length, take, drop}
use Rattle.stripes.proofs.Fold.{by_cases}
use Rattle.model.specs.Grid.{disks, map_bytes, map_fits}
use Rattle.model.specs.Refusal.{refusal, sector_tests}
use Rattle.model.specs.Array.{all_present, can_look, look_offset, look_length}
use Rattle.model.specs.declared.Size.{Size}
use Rattle.model.proofs.Look.{present_exact, look_takes}

module _ (z : Size) (B w : ℕ) (a m : List ℕ) (d : ℕ) where
  -- The tests are passed.
  abbrev pub Passed : Type 0
  Passed =
      (refusal (sector_tests z B (length a) w) ≡ 0) × (map_fits (map_bytes z (B / w)) m ≡ true) × (d < disks z) × (all_present (B / w) m d ≡ true)

  can-look : (can_look z B w a m d ≡ true) ↔ Passed
  can-look =
      let (to, of) = look_takes z B w a m d in
      let (each, all) = present_exact (B / w) m d in (
        λ can. let (ok, mapped, inside, present) = to can in (ok, mapped, inside, all present),
        λ (ok, mapped, inside, present). of (ok, mapped, inside, each present),
      )

  -- What look promises of the bytes and of the place that it hands back, where the array stands at p.
  abbrev pub Looked : ℕ × ℕ → List ℕ → ℕ × ℕ → Type 0
  Looked p r q =
      (r ≡ take (look_length z B w a m d) (drop (look_offset z B w a m d 0) a)) × (q ≡ (p.0, p.1 + look_offset z B w a m d 0))

  -- An empty part at the array's own place.
  pub look_nothing : (Passed → ⊥) → (p : ℕ × ℕ) → Looked p [] p
  unfolding look_length look_offset
  look_nothing failed p =
      let cannot : can_look z B w a m d ≡ false = by_cases (λ (t : Bool). t ≡ false) _ (λ can. absurd (failed (can-look.0 can))) (λ e. refl) in
      rw cannot (refl, ap (λ (k : ℕ). (p.0, k)) (sym (add-zero p.1)))

  -- The block, which the code cuts out between its two ends.
  pub look_block : Passed → (p : ℕ × ℕ) → Looked p (take (d * B + B - d * B) (drop (d * B) a)) (p.0, d * B + p.1)
  unfolding look_length look_offset
  look_block passed p =
      rw (can-look.1 passed)
      (ap (λ (k : ℕ). take k (drop (d * B) a)) (add-sub_cancel_left (d * B) B), ap (λ (k : ℕ). (p.0, k)) (add_comm (d * B) p.1))
