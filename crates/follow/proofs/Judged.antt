-- The sheets of all positions judged, one after another.
-- Assumes nothing.
use mathlib.Core.Path.{◌≡◌, refl, sym, ◌∙◌, ap}
use mathlib.Core.Bool.{Bool, true, false}
use mathlib.Core.List.{List, map}
use Prim.Native.Nat.{ℕ, zero, suc, ◌+◌, ◌*◌, ◌≤◌, ◌<◌}
use native.Mathlib.Numerals.{add-one}
use native.Mathlib.Omega.{arith}
use borrow.Author.Tests.{eq-eqb, ne_eqb}
use lib.ListN.{length, length-append, length-map}
use Rattle.stripes.specs.Fold.{every}
use Rattle.stripes.specs.System.{Layout}
use Rattle.stripes.specs.Repair.{Entry, clears}
use Rattle.stripes.specs.Sectors.{sectored, at_position, sector_entry, rising}
use Rattle.stripes.proofs.Fold.{every-not}
use Rattle.stripes.proofs.Positions.{clears-rising}
use Rattle.model.specs.Refusal.{refusal, earlier}
use Rattle.model.specs.Sheet.{narrow, sheet_at}
use Rattle.model.specs.Chain.{clean_refusal, chain_entries}
use Rattle.model.specs.Follow.{sheets_entries, sheets_tests}
use Rattle.model.proofs.Chain.{clean_exact, chain_few}
use Rattle.model.proofs.SheetRow.{no_sheets, sheets-next}
use Rattle.chain.specs.Read.{chain_read}
use Rattle.chain.specs.Read.{Chain}
use Rattle.chain.specs.Read.{Records, Refused}
use Rattle.chain.proofs.Clean.{by_number, by_records}
use Rattle.follow.specs.Judged.{chains_read}

-- ---- the earlier of two refusals
pub first-none : (j k : ℕ) → j ≡ 0 → earlier j k ≡ k
unfolding earlier
first-none zero k e = refl
first-none (suc j) k e = absurd (omega arith)

pub second_none : (j k : ℕ) → k ≡ 0 → earlier j k ≡ j
unfolding earlier
second_none zero k e = e
second_none (suc j) zero e = refl
second_none (suc j) (suc k) e = absurd (omega arith)

pub lower_second : (j k : ℕ) → (k ≡ 0 → ⊥) → k < j → earlier j k ≡ k
unfolding earlier
lower_second zero k some l = absurd (omega arith)
lower_second (suc j) zero some l = absurd (some refl)
lower_second (suc j) (suc k) some l = omega arith

pub lower_first_lem : (j k : ℕ) → (j ≡ 0 → ⊥) → j ≤ k → earlier j k ≡ j
unfolding earlier
lower_first_lem zero k some l = absurd (some refl)
lower_first_lem (suc j) zero some l = absurd (omega arith)
lower_first_lem (suc j) (suc k) some l = omega arith

-- A second one that is some number leaves some number.
second_some : (j k : ℕ) → (k ≡ 0 → ⊥) → earlier j k ≡ 0 → ⊥
unfolding earlier
second_some zero k some e = some e
second_some (suc j) zero some e = some refl
second_some (suc j) (suc k) some e = omega arith

-- ---- reading
module _ (n : ℕ) (s : List ℕ) where
  -- What the sheets of all positions list, one after another.
  abbrev pub lists : ℕ → List Entry
  lists p = chain_entries narrow (sheet_at narrow p s)

  -- The sheets of the first p positions are read: the refusal, and how many repairs they list if there is none.
  pub record SoFar (p status number : ℕ) : Type 0 where
    pub first : status ≡ refusal (sheets_tests narrow p s)
    pub few : number ≤ 32 * p
    pub counted : status ≡ 0 → number ≡ length (rising n lists p)

  pub none_read : SoFar 0 0 0
  unfolding rising
  none_read = record { first = sym (no_sheets narrow s); few = omega arith; counted = λ e. refl }

  length-next : (p : ℕ) → length (rising n lists (p + 1)) ≡ length (rising n lists p) + length (lists p)
  unfolding rising
  length-next p =
      rw (add-one p)
      (length-append (rising n lists p) (map (sector_entry n p) (lists p))
      ∙ ap (λ (k : ℕ). length (rising n lists p) + k) (length-map (lists p) (sector_entry n p)))

  refusal-next : (p : ℕ)
      → refusal (sheets_tests narrow (p + 1) s) ≡ earlier (refusal (sheets_tests narrow p s)) (clean_refusal narrow (sheet_at narrow p s))
  refusal-next p = ap (λ (k : ℕ). refusal (sheets_tests narrow k s)) (add-one p) ∙ sheets-next narrow s p

  module _ (p status number : ℕ) (is : SoFar p status number) (answer : Chain)
      (read : answer ≡ chain_read (clean_refusal narrow (sheet_at narrow p s)) (sheet_at narrow p s)) where
    -- One sheet more is taken,
    pub more_few : (count : ℕ) → answer ≡ Records count → count ≤ 32
    more_few count e =
        let (none, counted) = by_records _ _ answer read count e in
        let most = chain_few narrow (sheet_at narrow p s) ((clean_exact narrow (sheet_at narrow p s)).0 none).0 in
        omega arith

    pub more_read : (count : ℕ) → answer ≡ Records count → SoFar (p + 1) status (number + count)
    more_read count e =
        let (none, counted) = by_records _ _ answer read count e in
        let most = more_few count e in
        let before = is.few in
        record {
          first = is.first ∙ sym (refusal-next p ∙ second_none (refusal (sheets_tests narrow p s)) _ none);
          few = omega arith;
          counted = λ ok. let so_far = is.counted ok in let all = length-next p in omega arith;
        }

    -- or refused.
    pub more_refused : (k : ℕ) → answer ≡ Refused k → (both : ℕ) → both ≡ earlier status k → SoFar (p + 1) both number
    more_refused k e both both_is =
        let (same, some) = by_number _ _ answer read k e in
        let before = is.few in
        record {
          first = both_is ∙ (rw (is.first, ← same)) ∙ sym (refusal-next p);
          few = omega arith;
          counted = λ ok. absurd (second_some status k (λ none. some (same ∙ none)) (sym both_is ∙ ok));
        }

  -- All of them are read.
  module _ (status number : ℕ) (is : SoFar n status number) where
    pub all_refused : (status ≡ 0 → ⊥) → Refused status ≡ chains_read n s
    unfolding chains_read
    all_refused some = rw (← is.first, ne_eqb status 0 some)

    pub all_read : status ≡ 0 → Records number ≡ chains_read n s
    unfolding chains_read sheets_entries
    all_read none = rw (← is.first, eq-eqb status 0 none, is.counted none)

-- ---- the repairs that the sheets list
module _ (n : ℕ) (L : Layout) (e : ℕ → Bool) (s : List ℕ) where
  -- The repairs of a position are allowed, and leave no disk erased there.
  abbrev pub clearsAt : ℕ → Bool
  clearsAt p = clears L (at_position n p e) (chain_entries narrow (sheet_at narrow p s))

  pub none_judged : every 0 clearsAt ≡ true
  unfolding every
  none_judged = refl

  pub more_judged : (p : ℕ) → every p clearsAt ≡ true → clearsAt p ≡ true → every (p + 1) clearsAt ≡ true
  unfolding every
  more_judged p before own = rw (add-one p, before, own)

  pub all_judged : every n clearsAt ≡ true → true ≡ clears (sectored n L) e (sheets_entries narrow n s)
  unfolding sheets_entries
  all_judged each = sym (clears-rising n (lists n s) L e ∙ each)

  pub one_unclear : (p : ℕ) → p < n → clearsAt p ≡ false → false ≡ clears (sectored n L) e (sheets_entries narrow n s)
  unfolding sheets_entries
  one_unclear p place own = sym (clears-rising n (lists n s) L e ∙ every-not n clearsAt p place own)
