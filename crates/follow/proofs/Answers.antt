-- What follow answers and leaves of the array at each of its ends.
-- Assumes nothing.
use mathlib.Core.Path.{◌≡◌, refl, sym, ◌∙◌, ap, subst}
use mathlib.Core.Bool.{Bool, true, false}
use mathlib.Core.List.{List}
use Prim.Native.Nat.{ℕ, ◌/◌, ◌<◌}
use native.Mathlib.Omega.{arith}
use borrow.Author.Tests.{eqb-true, eqb-false}
use lib.Dec.{eqb}
use lib.ListN.{length}
use Rattle.stripes.specs.System.{whole}
use Rattle.stripes.specs.Erased.{erasures}
use Rattle.stripes.specs.Repair.{clears}
use Rattle.model.specs.Refusal.{refusal, sector_tests}
use Rattle.model.specs.Sheet.{narrow, sheet_at}
use Rattle.model.specs.Chain.{chain_refusal}
use Rattle.model.specs.Plan.{sheet_tests}
use Rattle.model.specs.Rebuild.{buffer_tests, buffer_refusal}
use Rattle.model.specs.Follow.{sheets_entries, sheets_tests, follow_outcome, follow_array}
use Rattle.model.specs.declared.Size.{Size}
use Rattle.model.specs.Outcome.{Outcome}
use Rattle.model.specs.Outcome.{Repairs, Refused}
use Rattle.model.proofs.Refusal.{refused_first, sector_fits_lem, sector_passed}
use Rattle.model.proofs.Chain.{clean_exact}
use Rattle.model.proofs.SheetRow.{sheets-accepted}
use Rattle.model.proofs.Follow.{sectors, listed, sheets_refusal, Gives, follow_given, follow_first, follow_listed, follow_unclean, follow_eleven}
use Rattle.chain.specs.Read.{Chain}
use Rattle.chain.specs.Read.{Records, Refused as Turned}
use Rattle.restore.specs.Restored.{fits, restored}
use Rattle.follow.specs.Judged.{chains_read}

-- What follow promises of its answer and of the array after it.
abbrev pub Followed : Size → (B w : ℕ) → (a m s : List ℕ) → Outcome → (b : List ℕ) → Type 0
Followed z B w a m s answer b = (answer ≡ follow_outcome z B w a m s) × (b ≡ follow_array z B w a m s)

-- The answer for all sheets by a number is the refusal, and that by a count is how many repairs they list.
module _ (n : ℕ) (s : List ℕ) (answer : Chain) (read : answer ≡ chains_read n s) where
  by_number : (k : ℕ) → answer ≡ Turned k → (refusal (sheets_tests narrow n s) ≡ k) × (refusal (sheets_tests narrow n s) ≡ 0 → ⊥)
  unfolding chains_read
  by_number k e = go (eqb (refusal (sheets_tests narrow n s)) 0) refl
    where
      go : (t : Bool) → eqb (refusal (sheets_tests narrow n s)) 0 ≡ t
          → (refusal (sheets_tests narrow n s) ≡ k) × (refusal (sheets_tests narrow n s) ≡ 0 → ⊥)
      go true q =
          let found : answer ≡ Records (length (sheets_entries narrow n s)) = read ∙ rw q in
          let clash : ◌≡◌ {A = ℕ} 0 1 = cc in
          absurd (omega arith)
      go false q = let found : answer ≡ Turned (refusal (sheets_tests narrow n s)) = read ∙ rw q in (cc, eqb-false _ 0 q)

  by_records : (count : ℕ) → answer ≡ Records count → (refusal (sheets_tests narrow n s) ≡ 0) × (count ≡ length (sheets_entries narrow n s))
  unfolding chains_read
  by_records count e = go (eqb (refusal (sheets_tests narrow n s)) 0) refl
    where
      go : (t : Bool) → eqb (refusal (sheets_tests narrow n s)) 0 ≡ t
          → (refusal (sheets_tests narrow n s) ≡ 0) × (count ≡ length (sheets_entries narrow n s))
      go true q = let found : answer ≡ Records (length (sheets_entries narrow n s)) = read ∙ rw q in (eqb-true _ 0 q, cc)
      go false q =
          let found : answer ≡ Turned (refusal (sheets_tests narrow n s)) = read ∙ rw q in
          let clash : ◌≡◌ {A = ℕ} 0 1 = cc in
          absurd (omega arith)

module _ (z : Size) (B w : ℕ) (a m s : List ℕ) where
  as-given : {answer : Outcome} {b : List ℕ} → Gives z B w a m s answer b → Followed z B w a m s answer b
  as-given g = (sym g.0, sym g.1)

  -- ---- refused by the tests that rebuild has too
  early : (k : ℕ) → buffer_refusal z B w a m s ≡ k → (k ≡ 0 → ⊥) → Followed z B w a m s (Refused k) a
  early k e some =
      subst (λ (k : ℕ). Followed z B w a m s (Refused k) a) e (as-given (follow_first z B w a m s (λ q. some (sym e ∙ q))))

  pub array_refused : (status : ℕ) → status ≡ refusal (sector_tests z B (length a) w) → (status ≡ 0 → ⊥)
      → Followed z B w a m s (Refused status) a
  unfolding buffer_refusal buffer_tests
  array_refused status e some = early status (refused_first (sector_tests z B (length a) w) _ (λ q. some (e ∙ q)) ∙ sym e) some

  module _ (sized : refusal (sector_tests z B (length a) w) ≡ 0) where
    pub tests_left : buffer_refusal z B w a m s ≡ refusal (sheet_tests z (B / w) m (length s))
    unfolding buffer_refusal buffer_tests
    tests_left = let (array, sector) = sector_fits_lem z B (length a) w sized in sector_passed z B (length a) w array sector _

    pub sheet_refused : (status : ℕ) → status ≡ refusal (sheet_tests z (B / w) m (length s)) → (status ≡ 0 → ⊥)
        → Followed z B w a m s (Refused status) a
    sheet_refused status e = early status (tests_left ∙ sym e)

  -- ---- the sheets
  module _ (ok : buffer_refusal z B w a m s ≡ 0) (answer : Chain) (read : answer ≡ chains_read (B / w) s) where
    -- Reading has refused them,
    pub unclean : (k : ℕ) → answer ≡ Turned k → Followed z B w a m s (Refused k) a
    unclean k e =
        let (same, some) = by_number (B / w) s answer read k e in
        subst (λ (k : ℕ). Followed z B w a m s (Refused k) a) same (as-given (follow_unclean z B w a m s ok some))

    -- or they are taken: then the steps decide, then the survivors.
    module _ (count : ℕ) (e : answer ≡ Records count) where
      clean : sheets_refusal B w s ≡ 0
      clean = (by_records (B / w) s answer read count e).0

      pub chains_fit : (p : ℕ) → p < B / w → chain_refusal narrow (sheet_at narrow p s) ≡ 0
      chains_fit p l = ((clean_exact narrow (sheet_at narrow p s)).0 ((sheets-accepted narrow (B / w) s).0 clean p l)).0

      pub steps_refused : clears (sectors z B w) (erasures m) (listed B w s) ≡ false → Followed z B w a m s (Refused 11) a
      steps_refused unclear = as-given (follow_eleven z B w a m s ok clean unclear)

      module _ (clear : clears (sectors z B w) (erasures m) (listed B w s) ≡ true)
          (b : List ℕ) (array_is : b ≡ restored (sectors z B w) (whole w) a (erasures m) (listed B w s)) where
        pub agreed : fits (sectors z B w) (whole w) a (listed B w s) ≡ true → Followed z B w a m s (Repairs count) b
        unfolding fits restored
        agreed fit =
            let g = as-given (follow_given z B w a m s 0 (follow_listed z B w a m s ok clean ∙ rw (clear, fit))) in
            (ap Repairs (by_records (B / w) s answer read count e).1 ∙ g.0, array_is ∙ (rw fit) ∙ g.1)

        pub contradicted : fits (sectors z B w) (whole w) a (listed B w s) ≡ false → Followed z B w a m s (Refused 7) b
        unfolding fits restored
        contradicted unfit =
            let g = as-given (follow_given z B w a m s 7 (follow_listed z B w a m s ok clean ∙ rw (clear, unfit))) in
            (g.0, array_is ∙ (rw unfit) ∙ g.1)
