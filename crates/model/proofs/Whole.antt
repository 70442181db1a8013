-- Why one step more than there are records shows the whole chain: more steps visit no other number.
-- Assumes nothing.
use mathlib.Core.Path.{◌≡◌, refl, sym, ◌∙◌, ap, subst}
use mathlib.Core.Bool.{Bool, true, false, not, false≢true}
use mathlib.Core.Logic.{◌↔◌, ◌⊎◌, inl, inr, ⊎_elim}
use mathlib.Core.List.{List, [], ◌∷◌}
use Prim.Native.Nat.{ℕ, zero, suc, ◌<◌}
use native.Mathlib.Nat.{not-suc-le-zero}
use native.Mathlib.Omega.{arith}
use lib.Dec.{leb}
use lib.ListN.{length, get_or}
use Rattle.stripes.specs.System.{among}
use Rattle.stripes.proofs.Fold.{and_left, and_right, and_both, by_cases}
use Rattle.model.specs.Sheet.{Format, sheet_bytes}
use Rattle.model.specs.Chain.{next_number, visited, chain_numbers, within, different}
use Rattle.model.proofs.Visited.{among-here, among_there, among_which, few, visited_cases, visited-next, visited-zero, visited-few, visited-different, outside_ends}

-- If no number of a list exceeds n, then one that stands in it does not,
within_at : (n : ℕ) (ks : List ℕ) → within n ks ≡ true → (k : ℕ) → among k ks ≡ true → leb k n ≡ true
unfolding within among
within_at n [] inside k = λ on. absurd (false≢true on)
within_at n (j ∷ ks) inside k = λ on.
    ⊎_elim (λ (e : k ≡ j). ap (λ (i : ℕ). leb i n) e ∙ and_left (leb j n) (within n ks) inside)
    (λ w. within_at n ks (and_right (leb j n) (within n ks) inside) k w) (among_which k j ks on)

-- nor does any number of a list with no other numbers.
within-among : (n : ℕ) (ks : List ℕ) → within n ks ≡ true → (js : List ℕ) → ((k : ℕ) → among k js ≡ true → among k ks ≡ true)
    → within n js ≡ true
unfolding within
within-among n ks inside [] h = refl
within-among n ks inside (j ∷ js) h =
    and_both (within_at n ks inside j (h j (among-here j js))) (within-among n ks inside js (λ k on. h k (among_there k j js on)))

-- From number k on the chain visits number j in n steps.
data Visits (f : Format) (s : List ℕ) : (n k j : ℕ) → Type 0 where
  here : {n k : ℕ} → 0 < k → Visits f s (suc n) k k
  there : {n k j : ℕ} → 0 < k → Visits f s n (next_number f s k) j → Visits f s (suc n) k j

module _ (f : Format) (s : List ℕ) where
  -- It does so exactly if j stands in the list of the numbers visited.
  visits-listed : {n k j : ℕ} → Visits f s n k j → among j (visited f s n k) ≡ true
  visits-listed (here {n} {k} p) = ap (among k) (visited-next f s n k p) ∙ among-here k _
  visits-listed (there {n} {k} {j} p w) = ap (among j) (visited-next f s n k p) ∙ among_there j k _ (visits-listed w)

  listed-visits : (n k j : ℕ) → among j (visited f s n k) ≡ true → Visits f s n k j
  unfolding among visited
  listed-visits zero k j = λ h. absurd (false≢true h)
  listed-visits (suc n) k j =
      visited_cases f s (λ (ks : List ℕ). among j ks ≡ true → Visits f s (suc n) k j) n k (λ e h. absurd (false≢true h))
      (λ p h.
      ⊎_elim (λ (e : j ≡ k). subst (Visits f s (suc n) k) (sym e) (here p)) (λ w. there p (listed-visits n (next_number f s k) j w))
      (among_which j k (visited f s n (next_number f s k)) h))

  -- What it visits, it visits in more steps too.
  visits-more : {n k j : ℕ} → Visits f s n k j → Visits f s (suc n) k j
  visits-more (here p) = here p
  visits-more (there p w) = there p (visits-more w)

  -- Where it comes by k, it visits the others on the way there or from k on.
  visits-past : {n m i k j : ℕ} → Visits f s n i k → Visits f s m i j → Visits f s n i j ⊎ Visits f s m k j
  visits-past (here p) w = inr w
  visits-past (there p v) (here q) = inl (here q)
  visits-past (there p v) (there q w) = ⊎_elim (λ l. inl (there p l)) (λ r. inr (visits-more r)) (visits-past v w)

  -- So where it comes back to k, it visits nothing new from there on.
  visits-ring : {n k j : ℕ} → Visits f s n (next_number f s k) k → (m : ℕ) → Visits f s m k j → Visits f s (suc n) k j
  visits-ring back zero w = elim w [ ]
  visits-ring back (suc m) (here p) = here p
  visits-ring back (suc m) (there p w) = ⊎_elim (λ l. there p l) (λ r. visits-ring back m r) (visits-past back w)

  -- In n steps from number k on the chain ends early or reaches a number twice.
  abbrev Settled : (n k : ℕ) → Type 0
  Settled n k = different (visited f s n k) ≡ true → length (visited f s n k) < n

  -- Then more steps visit nothing new.
  visits-whole : (n : ℕ) {m k j : ℕ} → Settled n k → Visits f s m k j → Visits f s n k j
  unfolding different visited
  visits-whole zero done w = absurd (not-suc-le-zero (done refl))
  visits-whole (suc n) done (here p) = here p
  visits-whole (suc n) done (there {n = m} {k} {j} p w) =
      let rest : List ℕ = visited f s n (next_number f s k) in
      let once : different (k ∷ rest) ≡ true → length (k ∷ rest) < suc n = rw (visited-next f s n k p) at done in
      by_cases (λ (b : Bool). Visits f s (suc n) k j) (among k rest)
      (λ back. visits-ring (listed-visits n (next_number f s k) k back) (suc m) (there p w))
      (λ new. there p (visits-whole n (λ apart. let few = once (and_both (ap not new) apart) in omega arith) w))

  -- A chain that ends reaches no number twice, in however many steps.
  ended-different : (n m k : ℕ) → length (visited f s n k) < n → different (visited f s m k) ≡ true
  unfolding different visited
  ended-different zero m k h = absurd (not-suc-le-zero h)
  ended-different (suc n) zero k h = refl
  ended-different (suc n) (suc m) k h =
      visited_cases f s (λ (ks : List ℕ). different ks ≡ true) m k (λ e. refl)
      (λ p.
      let next : ℕ = next_number f s k in
      let is : visited f s (suc n) k ≡ k ∷ visited f s n next = visited-next f s n k p in
      let size = ap length is in
      let apart : different (k ∷ visited f s n next) ≡ true = ap different (sym is) ∙ visited-different f s (suc n) k h in
      and_both
      (by_cases (λ (b : Bool). not b ≡ true) (among k (visited f s m next))
      (λ back.
      let on : among k (visited f s n next) ≡ true = visits-listed (visits-whole n (λ a. omega arith) (listed-visits m next k back)) in
      absurd (false≢true (rw on at apart)))
      (λ e. refl))
      (ended-different n m next (omega arith)))

  -- A sheet's chain settles in one step more than there are records. One that leads outside needs another step, which ends it.
  chain-settled : length s ≡ sheet_bytes f
      → (n : ℕ) × (visited f s n (get_or s 1 0) ≡ chain_numbers f s) × Settled n (get_or s 1 0)
  unfolding chain_numbers
  chain-settled long =
      let steps : ℕ = suc f.records in
      let first : ℕ = get_or s 1 0 in
      let most = visited-few f s steps first in
      by_cases (λ (b : Bool). (n : ℕ) × (visited f s n first ≡ visited f s steps first) × Settled n first)
      (within f.records (visited f s steps first))
      (λ inside.
      (steps, refl, λ apart. let fewer = few f.records (visited f s steps first) inside apart (visited-zero f s steps first) in omega arith))
      (λ out.
      let same = outside_ends f s long steps first out in
      let size = ap length same in
      (suc steps, same, λ apart. omega arith))

  -- More steps show nothing new: every number that the chain visits, in however many steps, is among the first ones.
  pub chain_whole : length s ≡ sheet_bytes f → (n k : ℕ) → among k (visited f s n (get_or s 1 0)) ≡ true → among k (chain_numbers f s) ≡ true
  chain_whole long n k on =
      let (steps, same, done) = chain-settled long in
      ap (among k) (sym same) ∙ visits-listed (visits-whole steps done (listed-visits n (get_or s 1 0) k on))

  -- 10 by a number: exactly if the chain, in however many steps, reaches a number that no record has.
  pub outside_exact : length s ≡ sheet_bytes f
      → (within f.records (chain_numbers f s) ≡ false) ↔ ((n : ℕ) × (within f.records (visited f s n (get_or s 1 0)) ≡ false))
  unfolding chain_numbers
  outside_exact long = (
    λ out. (suc f.records, out),
    λ (n, out).
        by_cases (λ (b : Bool). b ≡ false) (within f.records (chain_numbers f s))
        (λ inside. sym (within-among f.records (chain_numbers f s) inside (visited f s n (get_or s 1 0)) (chain_whole long n)) ∙ out) (λ e. refl),
  )

  -- 13: exactly if in however many steps it reaches a record twice.
  pub ring_exact : length s ≡ sheet_bytes f
      → (different (chain_numbers f s) ≡ false) ↔ ((n : ℕ) × (different (visited f s n (get_or s 1 0)) ≡ false))
  unfolding chain_numbers
  ring_exact long = (
    λ twice. (suc f.records, twice),
    λ (n, twice).
        let (steps, same, done) = chain-settled long in
        by_cases (λ (b : Bool). b ≡ false) (different (chain_numbers f s))
        (λ apart. sym (ended-different steps n (get_or s 1 0) (done (ap different same ∙ apart))) ∙ twice) (λ e. refl),
  )
