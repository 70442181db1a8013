-- One stripe more is reached: what is known of the stripes, the links and the disks stays true.
-- Assumes nothing.
use mathlib.Core.Path.{◌≡◌, refl, sym, ◌∙◌, ap, ap₂, subst}
use mathlib.Core.Bool.{Bool, true, false, cond, ◌||◌, or-false, true≢false}
use mathlib.Core.Logic.{◌⊎◌, inl, inr, ⊎_elim}
use Prim.Native.Nat.{ℕ, ◌<◌}
use native.Mathlib.Omega.{arith}
use borrow.Author.Tests.{eq-eqb, ne_eqb, eqb-true, eqb-false}
use lib.Dec.{eqb}
use Rattle.stripes.specs.System.{Layout, TwoStripes, on, other_than, lower, higher}
use Rattle.stripes.specs.Erased.{without}
use Rattle.stripes.specs.Joined.{joined}
use Rattle.stripes.specs.Undetermined.{undetermined}
use Rattle.stripes.proofs.Fold.{by_cases, and_both, or_left, or_right}
use Rattle.stripes.proofs.Degree.{on_which, other-first, other_second}
use Rattle.stripes.proofs.Peel.{without_other, without_sub, without-apart}
use Rattle.stripes.proofs.Joined.{lower_is, higher_is, joined_self, joined_back, joined_comm, joined_chain, joined-disk, joined-least}
use Rattle.neighbours.specs.Near.{Met}
use Rattle.neighbours.proofs.Meeting.{or_which, or_first, or_second, on-other, other_back}
use Rattle.neighbours.proofs.Neighbours.{Apart, over_same}
use Rattle.bridges.specs.Forest.{Forest, from_over}

-- Stripes that disks of a set join are joined by those of a larger one.
pub joined_wider : (L : Layout) (c e : ℕ → Bool) → ((d : ℕ) → c d ≡ true → e d ≡ true) → (s t : ℕ) → joined L c s t ≡ true → joined L e s t ≡ true
joined_wider L c e sub =
    joined-least L c (λ s t. joined L e s t ≡ true)
    (record {
      self = joined_self L e;
      back = joined_back L e;
      chain = joined_chain L e;
      disk = λ i w k. joined-disk L e i w (sub i k);
    })

module _ (L : Layout) (two : TwoStripes L) where
  -- A disk joins its two stripes, whichever comes first.
  pub either_end : (c : ℕ → Bool) (d x : ℕ) → d < L.disks → on L d x ≡ true
      → joined L c x (other_than x (L.through d)) ≡ joined L c (lower L d) (higher L d)
  either_end c d x l h =
      let apart : two.high d ≡ two.low d → ⊥ = λ q. let less = two.order d l in omega arith in
      let ends : joined L c (lower L d) (higher L d) ≡ joined L c (two.low d) (two.high d) =
      ap₂ (joined L c) (lower_is L two d l) (higher_is L two d l) in
      ⊎_elim
      (λ (q : x ≡ two.low d).
      ap₂ (joined L c) q (ap₂ other_than q (two.two d l) ∙ other-first (two.low d) (two.high d) apart) ∙ sym ends)
      (λ (q : x ≡ two.high d).
      ap₂ (joined L c) q (ap₂ other_than q (two.two d l) ∙ other_second (two.low d) (two.high d) apart)
      ∙ joined_comm L c (two.high d) (two.low d) ∙ sym ends)
      (on_which L two d l x h)

  pub met-joined : (c e : ℕ → Bool) (x y : ℕ) (m : Met L e x y) → c m.disk ≡ true → joined L c x y ≡ true
  met-joined c e x y m h =
      ap (joined L c x) (sym m.next) ∙ either_end c m.disk x m.inside m.here ∙ joined-disk L c m.disk m.inside h

  pub met_back : (e : ℕ → Bool) (x y : ℕ) → Met L e x y → Met L e y x
  met_back e x y m =
      record {
        disk = m.disk;
        inside = m.inside;
        held = m.held;
        here = ap (on L m.disk) (sym m.next) ∙ on-other L two m.disk m.inside x m.here;
        next = ap (λ (s : ℕ). other_than s (L.through m.disk)) (sym m.next) ∙ other_back L two m.disk m.inside x m.here;
      }

-- Nothing is reached at first.
pub forest-none : (L : Layout) (e seen links closed : ℕ → Bool) (way : ℕ → ℕ → Bool) → ((t : ℕ) → seen t ≡ false) → ((t : ℕ) → links t ≡ false)
    → ((t : ℕ) → closed t ≡ false) → Forest L e seen links closed way
forest-none L e seen links closed way unseen none loose =
    record {
      disk = λ t. 0;
      tree = λ d. false;
      root = λ t. t;
      link_tree = λ t h. no-link t h;
      tree_link = λ d h. absurd (true≢false (sym h));
      reached = λ t h. no-link t h;
      inside = λ t h. no-link t h;
      held = λ t h. no-link t h;
      here = λ t h. no-link t h;
      before = λ t h. no-link t h;
      fresh = λ t h. no-link t h;
      longer = λ t h. no-link t h;
      same_root = λ t h. no-link t h;
      way_links = λ x t h. no-stripe x h;
      to_root = λ x h. no-stripe x h;
      away = λ t x h. no-link t h;
      behind = λ t x h. no-link t h;
      together = λ x y m h. no-stripe x h;
      alike = λ x y t m h. no-stripe x h;
      closed_links = λ t h. absurd (true≢false (sym h ∙ loose t));
      sound = λ t h. absurd (true≢false (sym h ∙ loose t));
    }
  where
    no-link : {A : Type 0} (t : ℕ) → links t ≡ true → A
    no-link t h = absurd (true≢false (sym h ∙ none t))

    no-stripe : {A : Type 0} (x : ℕ) → seen x ≡ true → A
    no-stripe x h = absurd (true≢false (sym h ∙ unseen x))

-- ---- one stripe more

-- A function with another value at u.
unfoldable pub put : (u v : ℕ) → (f : ℕ → ℕ) → ℕ → ℕ
put u v f x = cond (eqb x u) v (f x)

module _ (u v : ℕ) (f : ℕ → ℕ) where
  pub put_same : put u v f u ≡ v
  unfolding put
  put_same = ap (λ (b : Bool). cond b v (f u)) (eq-eqb u u refl)

  pub put_other : (x : ℕ) → (x ≡ u → ⊥) → put u v f x ≡ f x
  unfolding put
  put_other x q = ap (λ (b : Bool). cond b v (f x)) (ne_eqb x u q)

-- What holds of u, and of every other number, holds of each.
pub split : (P : ℕ → Type 0) (u : ℕ) → P u → ((x : ℕ) → (x ≡ u → ⊥) → P x) → (x : ℕ) → P x
split P u same other x =
    by_cases (λ (b : Bool). eqb x u ≡ b → P x) (eqb x u) (λ _ q. subst P (sym (eqb-true x u q)) same) (λ _ q. other x (eqb-false x u q)) refl

-- A test with u put in.
pub record With (t : ℕ → Bool) (u : ℕ) (new : ℕ → Bool) : Type 0 where
  pub is : (x : ℕ) → new x ≡ (t x || eqb x u)

module _ {t : ℕ → Bool} {u : ℕ} {new : ℕ → Bool} (w : With t u new) where
  pub with_u : new u ≡ true
  with_u = w.is u ∙ or_second (t u) (eqb u u) (eq-eqb u u refl)

  pub with_old : (x : ℕ) → t x ≡ true → new x ≡ true
  with_old x h = w.is x ∙ or_first (t x) (eqb x u) h

  pub was_old : (x : ℕ) → (x ≡ u → ⊥) → new x ≡ true → t x ≡ true
  was_old x q h = sym (or-false (t x)) ∙ ap (λ (b : Bool). t x || b) (sym (ne_eqb x u q)) ∙ sym (w.is x) ∙ h

-- A disk of a set that is not the one left out.
is_without : (c : ℕ → Bool) (d i : ℕ) → c i ≡ true → (i ≡ d → ⊥) → without c d i ≡ true
is_without c d i h q = without_other c d i q ∙ h

module _ (L : Layout) (two : TwoStripes L) (e : ℕ → Bool) where
  -- The stripes of a disk are the one given and its other one.
  pub one_of_both : (d x y : ℕ) → d < L.disks → on L d x ≡ true → on L d y ≡ true → (y ≡ x) ⊎ (y ≡ other_than x (L.through d))
  one_of_both d x y l h k =
      let apart : two.high d ≡ two.low d → ⊥ = λ q. let less = two.order d l in omega arith in
      ⊎_elim
      (λ (p : x ≡ two.low d).
      ⊎_elim (λ (q : y ≡ two.low d). inl (q ∙ sym p))
      (λ (q : y ≡ two.high d). inr (q ∙ sym (ap₂ other_than p (two.two d l) ∙ other-first (two.low d) (two.high d) apart)))
      (on_which L two d l y k))
      (λ (p : x ≡ two.high d).
      ⊎_elim (λ (q : y ≡ two.low d). inr (q ∙ sym (ap₂ other_than p (two.two d l) ∙ other_second (two.low d) (two.high d) apart)))
      (λ (q : y ≡ two.high d). inl (q ∙ sym p))
      (on_which L two d l y k))
      (on_which L two d l x h)

  -- No disk has both its ends on one stripe.
  pub no_loop : (u : ℕ) → Met L e u u → ⊥
  no_loop u m =
      let apart : two.high m.disk ≡ two.low m.disk → ⊥ = λ q. let less = two.order m.disk m.inside in omega arith in
      ⊎_elim
      (λ (p : u ≡ two.low m.disk).
      apart (sym (ap₂ other_than p (two.two m.disk m.inside) ∙ other-first (two.low m.disk) (two.high m.disk) apart) ∙ m.next ∙ p))
      (λ (p : u ≡ two.high m.disk).
      apart
      (sym p ∙ sym m.next ∙ ap₂ other_than p (two.two m.disk m.inside) ∙ other_second (two.low m.disk) (two.high m.disk) apart))
      (on_which L two m.disk m.inside u m.here)

  module _ {seen links closed : ℕ → Bool} {way : ℕ → ℕ → Bool} (f : Forest L e seen links closed way)
      {u : ℕ} (unseen : seen u ≡ false) {seen' : ℕ → Bool} (saw : With seen u seen') where
    not-u : (x : ℕ) → seen x ≡ true → x ≡ u → ⊥
    not-u x h q = true≢false (sym h ∙ ap seen q ∙ unseen)

    link-not-u : (t : ℕ) → links t ≡ true → t ≡ u → ⊥
    link-not-u t h = not-u t (f.reached t h)

    -- The disk of a link does not lie on u.
    pub disk-off : (t : ℕ) → links t ≡ true → on L (f.disk t) u ≡ true → ⊥
    disk-off t h k =
        ⊎_elim (λ (q : u ≡ t). link-not-u t h (sym q)) (λ (q : u ≡ from_over L f.disk t). not-u (from_over L f.disk t) (f.before t h) (sym q))
        (one_of_both (f.disk t) t u (f.inside t h) (f.here t h) k)

    -- u begins a part, since no disk leads to it from a reached stripe.
    module _ (alone : (y : ℕ) → seen y ≡ true → Met L e u y → ⊥) {way' : ℕ → ℕ → Bool} (blank : (t : ℕ) → way' u t ≡ false)
        (kept : (x : ℕ) → (x ≡ u → ⊥) → (t : ℕ) → way' x t ≡ way x t) where
      root' : ℕ → ℕ
      root' = put u u f.root

      pub forest-root : (g : Forest L e seen' links closed way') × ((x : ℕ) → g.root x ≡ put u u f.root x)
      unfolding root'
      forest-root = (
        record {
          disk = f.disk;
          tree = f.tree;
          root = root';
          link_tree = f.link_tree;
          tree_link = f.tree_link;
          reached = λ t h. with_old saw t (f.reached t h);
          inside = f.inside;
          held = f.held;
          here = f.here;
          before = λ t h. with_old saw _ (f.before t h);
          fresh = λ t h. kept _ (not-u _ (f.before t h)) t ∙ f.fresh t h;
          longer = λ t h s.
              kept t (link-not-u t h) s ∙ f.longer t h s ∙ ap (λ (b : Bool). b || eqb s t) (sym (kept _ (not-u _ (f.before t h)) s));
          same_root = λ t h.
              put_other u u f.root _ (not-u _ (f.before t h)) ∙ f.same_root t h ∙ sym (put_other u u f.root t (link-not-u t h));
          way_links =
              split (λ x. (t : ℕ) → seen' x ≡ true → way' x t ≡ true → links t ≡ true) u (λ t _ w. absurd (true≢false (sym w ∙ blank t)))
              (λ x q t h w. f.way_links x t (was_old saw x q h) (sym (kept x q t) ∙ w));
          to_root =
              split (λ x. seen' x ≡ true → joined L f.tree x (root' x) ≡ true) u
              (λ _. ap (joined L f.tree u) (put_same u u f.root) ∙ joined_self L f.tree u)
              (λ x q h. ap (joined L f.tree x) (put_other u u f.root x q) ∙ f.to_root x (was_old saw x q h));
          away = λ t.
              split
              (λ x. links t ≡ true → seen' x ≡ true → way' x t ≡ false → joined L (without f.tree (f.disk t)) x (root' x) ≡ true) u
              (λ k _ _. ap (joined L (without f.tree (f.disk t)) u) (put_same u u f.root) ∙ joined_self L (without f.tree (f.disk t)) u)
              (λ x q k h w.
              ap (joined L (without f.tree (f.disk t)) x) (put_other u u f.root x q)
              ∙ f.away t x k (was_old saw x q h) (sym (kept x q t) ∙ w));
          behind = λ t.
              split
              (λ x.
              links t ≡ true → seen' x ≡ true → way' x t ≡ true
              → (joined L (without f.tree (f.disk t)) x t ≡ true) × (root' x ≡ root' t))
              u
              (λ k _ w. absurd (true≢false (sym w ∙ blank t)))
              (λ x q k h w.
              let (j, same) = f.behind t x k (was_old saw x q h) (sym (kept x q t) ∙ w) in
              (j, put_other u u f.root x q ∙ same ∙ sym (put_other u u f.root t (link-not-u t k))));
          together = λ x y m h k.
              let (p, q) = ends x y m h k in
              put_other u u f.root x p ∙ f.together x y m (was_old saw x p h) (was_old saw y q k) ∙ sym (put_other u u f.root y q);
          alike = λ x y t m h k l c off.
              let (p, q) = ends x y m h k in
              kept x p t ∙ f.alike x y t m (was_old saw x p h) (was_old saw y q k) l c off ∙ sym (kept y q t);
          closed_links = f.closed_links;
          sound = f.sound;
        },
        λ x. refl,
      )
        where
          -- So a disk on two reached stripes is not on u.
          ends : (x y : ℕ) → Met L e x y → seen' x ≡ true → seen' y ≡ true → (x ≡ u → ⊥) × (y ≡ u → ⊥)
          ends x y m h k = (
            λ p.
                let m' : Met L e u y = subst (λ (s : ℕ). Met L e s y) p m in
                by_cases (λ (b : Bool). eqb y u ≡ b → ⊥) (eqb y u) (λ _ r. no_loop u (subst (λ (s : ℕ). Met L e u s) (eqb-true y u r) m'))
                (λ _ r. alone y (was_old saw y (eqb-false y u r) k) m') refl,
            λ q.
                let m' : Met L e u x = met_back L two e x u (subst (λ (s : ℕ). Met L e x s) q m) in
                by_cases (λ (b : Bool). eqb x u ≡ b → ⊥) (eqb x u) (λ _ r. no_loop u (subst (λ (s : ℕ). Met L e u s) (eqb-true x u r) m'))
                (λ _ r. alone x (was_old saw x (eqb-false x u r) h) m') refl,
          )

    -- u is reached over a disk from stripe q, and lies in its part with all reached stripes to which other disks lead from it: these close links.
    module _ (apart : Apart L) {q : ℕ} (near : seen q ≡ true) (m : Met L e u q) (one-part : (y : ℕ) → seen y ≡ true → Met L e u y → f.root y ≡ f.root q)
        {links' : ℕ → Bool} (linked : With links u links')
        {way' : ℕ → ℕ → Bool} (kept : (x : ℕ) → (x ≡ u → ⊥) → (t : ℕ) → way' x t ≡ way x t) (more : (t : ℕ) → way' u t ≡ (way q t || eqb t u))
        {closed' closes : ℕ → Bool} (shut : (t : ℕ) → closed' t ≡ (closed t || closes t))
        (some-close : (t : ℕ) → closes t ≡ true → (y : ℕ) × (seen y ≡ true) × Met L e u y × (y ≡ q → ⊥) × (way' u t ≡ way y t → ⊥))
        (none-close : (t : ℕ) → closes t ≡ false → (y : ℕ) → seen y ≡ true → Met L e u y → (y ≡ q → ⊥) → way' u t ≡ way y t) where
      disk' : ℕ → ℕ
      disk' = put u m.disk f.disk

      tree' : ℕ → Bool
      tree' d = f.tree d || eqb d m.disk

      root'' : ℕ → ℕ
      root'' = put u (f.root q) f.root

      -- What is known of u: its disk is new, and no way had it.
      disk-u : disk' u ≡ m.disk
      unfolding disk'
      disk-u = put_same u m.disk f.disk

      disk-old : (t : ℕ) → (t ≡ u → ⊥) → disk' t ≡ f.disk t
      unfolding disk'
      disk-old = put_other u m.disk f.disk

      root-u : root'' u ≡ f.root q
      unfolding root''
      root-u = put_same u (f.root q) f.root

      root-old : (x : ℕ) → (x ≡ u → ⊥) → root'' x ≡ f.root x
      unfolding root''
      root-old = put_other u (f.root q) f.root

      from-u : from_over L disk' u ≡ q
      from-u = ap (λ (d : ℕ). other_than u (L.through d)) disk-u ∙ m.next

      from_old : (t : ℕ) → (t ≡ u → ⊥) → from_over L disk' t ≡ from_over L f.disk t
      from_old t p = ap (λ (d : ℕ). other_than t (L.through d)) (disk-old t p)

      fresh-disk : (t : ℕ) → links t ≡ true → m.disk ≡ f.disk t → ⊥
      fresh-disk t h p = disk-off t h (ap (λ (d : ℕ). on L d u) (sym p) ∙ m.here)

      fresh-tree : f.tree m.disk ≡ true → ⊥
      fresh-tree h = let (t, k, p) = f.tree_link m.disk h in fresh-disk t k (sym p)

      off-ways : (x : ℕ) → seen x ≡ true → way x u ≡ false
      off-ways x h =
          by_cases (λ (b : Bool). way x u ≡ b → b ≡ false) (way x u) (λ _ w. absurd (link-not-u u (f.way_links x u h w) refl)) (λ _ w. refl) refl

      -- The disks of the links, without that of one of them or not, are some more.
      tree-more : (d : ℕ) → f.tree d ≡ true → tree' d ≡ true
      unfolding tree'
      tree-more d h = or_first (f.tree d) (eqb d m.disk) h

      tree-u : tree' m.disk ≡ true
      unfolding tree'
      tree-u = or_second (f.tree m.disk) (eqb m.disk m.disk) (eq-eqb m.disk m.disk refl)

      less-more : (i : ℕ) (x y : ℕ) → joined L (without f.tree i) x y ≡ true → joined L (without tree' i) x y ≡ true
      less-more i =
          joined_wider L (without f.tree i) (without tree' i)
          (λ d h. is_without tree' i d (tree-more d (without_sub f.tree i d h)) (without-apart f.tree i d h))

      less-new : (x y : ℕ) → joined L f.tree x y ≡ true → joined L (without tree' m.disk) x y ≡ true
      less-new =
          joined_wider L f.tree (without tree' m.disk)
          (λ d h. is_without tree' m.disk d (tree-more d h) (λ p. fresh-tree (ap f.tree (sym p) ∙ h)))

      -- The new disk joins u with q, also without that of another link.
      step-q : (t : ℕ) → links t ≡ true → joined L (without tree' (f.disk t)) u q ≡ true
      step-q t h = met-joined L two (without tree' (f.disk t)) e u q m (is_without tree' (f.disk t) m.disk tree-u (fresh-disk t h))

      -- ---- without the disk of a link
      abbrev Away : (t x : ℕ) → Type 0
      Away t x = links' t ≡ true → seen' x ≡ true → way' x t ≡ false → joined L (without tree' (disk' t)) x (root'' x) ≡ true

      abbrev Behind : (t x : ℕ) → Type 0
      Behind t x =
          links' t ≡ true → seen' x ≡ true → way' x t ≡ true → (joined L (without tree' (disk' t)) x t ≡ true) × (root'' x ≡ root'' t)

      way-u : (t : ℕ) → (t ≡ u → ⊥) → way' u t ≡ way q t
      way-u t p = more t ∙ ap (λ (b : Bool). way q t || b) (ne_eqb t u p) ∙ or-false (way q t)

      has-u : way' u u ≡ true
      has-u = more u ∙ or_second (way q u) (eqb u u) (eq-eqb u u refl)

      new-away : (t x : ℕ) → Away t x
      new-away =
          split (λ t. (x : ℕ) → Away t x) u
          (split (Away u) u (λ _ _ w. absurd (true≢false (sym has-u ∙ w)))
          (λ x p _ h w. rw (disk-u, root-old x p) (less-new x (f.root x) (f.to_root x (was_old saw x p h)))))
          (λ t off.
          split (Away t) u
          (λ k h w.
          let link = was_old linked t off k in
          rw (disk-old t off, root-u)
          (joined_chain L (without tree' (f.disk t)) u q (f.root q) (step-q t link)
          (less-more (f.disk t) q (f.root q) (f.away t q link near (sym (way-u t off) ∙ w)))))
          (λ x p k h w.
          rw (disk-old t off, root-old x p)
          (less-more (f.disk t) x (f.root x) (f.away t x (was_old linked t off k) (was_old saw x p h) (sym (kept x p t) ∙ w)))))

      new-behind : (t x : ℕ) → Behind t x
      new-behind =
          split (λ t. (x : ℕ) → Behind t x) u
          (split (Behind u) u (λ _ _ w. (joined_self L (without tree' (disk' u)) u, refl))
          (λ x p _ h w. absurd (true≢false (sym w ∙ kept x p u ∙ off-ways x (was_old saw x p h)))))
          (λ t off.
          split (Behind t) u
          (λ k h w.
          let link = was_old linked t off k in
          let (j, same) = f.behind t q link near (sym (way-u t off) ∙ w) in (
            rw (disk-old t off) (joined_chain L (without tree' (f.disk t)) u q t (step-q t link) (less-more (f.disk t) q t j)),
            root-u ∙ same ∙ sym (root-old t off),
          ))
          (λ x p k h w.
          let (j, same) = f.behind t x (was_old linked t off k) (was_old saw x p h) (sym (kept x p t) ∙ w) in
          (rw (disk-old t off) (less-more (f.disk t) x t j), root-old x p ∙ same ∙ sym (root-old t off))))

      -- ---- links and the stripes that they are reached from
      abbrev Link : (P : ℕ → Type 0) → Type 0
      Link P = (t : ℕ) → links' t ≡ true → P t

      each : (P : ℕ → Type 0) → P u → ((t : ℕ) → links t ≡ true → (t ≡ u → ⊥) → P t) → Link P
      each P same old = split (λ t. links' t ≡ true → P t) u (λ _. same) (λ t p h. old t (was_old linked t p h) p)

      off-q : q ≡ u → ⊥
      off-q = not-u q near

      new-before : Link (λ t. seen' (from_over L disk' t) ≡ true)
      new-before =
          each (λ t. seen' (from_over L disk' t) ≡ true) (ap seen' from-u ∙ with_old saw q near)
          (λ t h p. ap seen' (from_old t p) ∙ with_old saw _ (f.before t h))

      new-fresh : Link (λ t. way' (from_over L disk' t) t ≡ false)
      new-fresh =
          each (λ t. way' (from_over L disk' t) t ≡ false) (ap (λ (s : ℕ). way' s u) from-u ∙ kept q off-q u ∙ off-ways q near)
          (λ t h p. ap (λ (s : ℕ). way' s t) (from_old t p) ∙ kept _ (not-u _ (f.before t h)) t ∙ f.fresh t h)

      new-longer : Link (λ t. (s : ℕ) → way' t s ≡ (way' (from_over L disk' t) s || eqb s t))
      new-longer =
          each (λ t. (s : ℕ) → way' t s ≡ (way' (from_over L disk' t) s || eqb s t))
          (λ s. more s ∙ sym (ap (λ (b : Bool). b || eqb s u) (ap (λ (i : ℕ). way' i s) from-u ∙ kept q off-q s)))
          (λ t h p s.
          kept t p s ∙ f.longer t h s
          ∙ sym (ap (λ (b : Bool). b || eqb s t) (ap (λ (i : ℕ). way' i s) (from_old t p) ∙ kept _ (not-u _ (f.before t h)) s)))

      new-same-root : Link (λ t. root'' (from_over L disk' t) ≡ root'' t)
      new-same-root =
          each (λ t. root'' (from_over L disk' t) ≡ root'' t) (ap root'' from-u ∙ root-old q off-q ∙ sym root-u)
          (λ t h p. ap root'' (from_old t p) ∙ root-old _ (not-u _ (f.before t h)) ∙ f.same_root t h ∙ sym (root-old t p))

      new_inside : Link (λ t. disk' t < L.disks)
      new_inside =
          each (λ t. disk' t < L.disks) (subst (λ (d : ℕ). d < L.disks) (sym disk-u) m.inside)
          (λ t h p. subst (λ (d : ℕ). d < L.disks) (sym (disk-old t p)) (f.inside t h))

      new-held : Link (λ t. e (disk' t) ≡ true)
      new-held = each (λ t. e (disk' t) ≡ true) (ap e disk-u ∙ m.held) (λ t h p. ap e (disk-old t p) ∙ f.held t h)

      new-here : Link (λ t. on L (disk' t) t ≡ true)
      new-here =
          each (λ t. on L (disk' t) t ≡ true) (ap (λ (d : ℕ). on L d u) disk-u ∙ m.here)
          (λ t h p. ap (λ (d : ℕ). on L d t) (disk-old t p) ∙ f.here t h)

      new-tree : Link (λ t. tree' (disk' t) ≡ true)
      new-tree =
          each (λ t. tree' (disk' t) ≡ true) (ap tree' disk-u ∙ tree-u) (λ t h p. ap tree' (disk-old t p) ∙ tree-more (f.disk t) (f.link_tree t h))

      new-tree-link : (d : ℕ) → tree' d ≡ true → (t : ℕ) × (links' t ≡ true) × (disk' t ≡ d)
      unfolding tree'
      new-tree-link d h =
          ⊎_elim
          (λ k. let (t, l, p) = f.tree_link d k in (t, with_old linked t l, disk-old t (link-not-u t l) ∙ p))
          (λ k. (u, with_u linked, disk-u ∙ sym (eqb-true d m.disk k)))
          (or_which (f.tree d) (eqb d m.disk) h)

      tree-held : (d : ℕ) → tree' d ≡ true → e d ≡ true
      tree-held d h = let (t, l, p) = new-tree-link d h in ap e (sym p) ∙ new-held t l

      new-way-links : (x t : ℕ) → seen' x ≡ true → way' x t ≡ true → links' t ≡ true
      new-way-links =
          split (λ x. (t : ℕ) → seen' x ≡ true → way' x t ≡ true → links' t ≡ true) u
          (split (λ t. seen' u ≡ true → way' u t ≡ true → links' t ≡ true) u (λ _ _. with_u linked)
          (λ t p _ w. with_old linked t (f.way_links q t near (sym (way-u t p) ∙ w))))
          (λ x p t h w. with_old linked t (f.way_links x t (was_old saw x p h) (sym (kept x p t) ∙ w)))

      new-to-root : (x : ℕ) → seen' x ≡ true → joined L tree' x (root'' x) ≡ true
      new-to-root =
          split (λ x. seen' x ≡ true → joined L tree' x (root'' x) ≡ true) u
          (λ _.
          rw root-u
          (joined_chain L tree' u q (f.root q) (met-joined L two tree' e u q m tree-u)
          (joined_wider L f.tree tree' tree-more q (f.root q) (f.to_root q near))))
          (λ x p h. rw (root-old x p) (joined_wider L f.tree tree' tree-more x (f.root x) (f.to_root x (was_old saw x p h))))

      -- ---- other disks on two reached stripes
      new-together : (x y : ℕ) → Met L e x y → seen' x ≡ true → seen' y ≡ true → root'' x ≡ root'' y
      new-together =
          split (λ x. (y : ℕ) → Met L e x y → seen' x ≡ true → seen' y ≡ true → root'' x ≡ root'' y) u
          (split (λ y. Met L e u y → seen' u ≡ true → seen' y ≡ true → root'' u ≡ root'' y) u (λ n. absurd (no_loop u n))
          (λ y p n _ h. root-u ∙ sym (one-part y (was_old saw y p h) n) ∙ sym (root-old y p)))
          (λ x o.
          split (λ y. Met L e x y → seen' x ≡ true → seen' y ≡ true → root'' x ≡ root'' y) u
          (λ n h _. root-old x o ∙ one-part x (was_old saw x o h) (met_back L two e x u n) ∙ sym root-u)
          (λ y p n h k. root-old x o ∙ f.together x y n (was_old saw x o h) (was_old saw y p k) ∙ sym (root-old y p)))

      -- Two disks that lead from u to q are one.
      same-disk : (n : Met L e u q) → n.disk ≡ m.disk
      same-disk n =
          apart n.disk m.disk n.inside m.inside
          (over_same L two n.disk m.disk u q n.inside m.inside (and_both n.here (eq-eqb _ q n.next))
          (and_both m.here (eq-eqb _ q m.next)))

      -- A disk from u to another stripe is not that of a link.
      other-disk : (y t : ℕ) (n : Met L e u y) → (y ≡ q → ⊥) → links' t ≡ true → n.disk ≡ disk' t → ⊥
      other-disk y t n off =
          split (λ t. links' t ≡ true → n.disk ≡ disk' t → ⊥) u
          (λ _ p. off (sym n.next ∙ ap (λ (d : ℕ). other_than u (L.through d)) (p ∙ disk-u) ∙ m.next))
          (λ t o k p. disk-off t (was_old linked t o k) (ap (λ (d : ℕ). on L d u) (sym (p ∙ disk-old t o)) ∙ n.here)) t

      -- Where a link is not closed, a disk from u that is not its own leads to a stripe with or without it on its way, as u is.
      alike-u : (y t : ℕ) (n : Met L e u y) → seen y ≡ true → closes t ≡ false → (n.disk ≡ disk' t → ⊥) → way' u t ≡ way y t
      alike-u y t n h c =
          by_cases (λ (b : Bool). eqb y q ≡ b → (n.disk ≡ disk' t → ⊥) → way' u t ≡ way y t) (eqb y q)
          (λ _ p off.
          let at : y ≡ q = eqb-true y q p in
          let own : n.disk ≡ m.disk = at-q at in
          way-u t (λ o. off (own ∙ sym (ap disk' o ∙ disk-u))) ∙ ap (λ (s : ℕ). way s t) (sym at))
          (λ _ p off. none-close t c y h n (eqb-false y q p))
          refl
        where
          at-q : y ≡ q → n.disk ≡ m.disk
          at-q p =
              let n' : Met L e u q = record { disk = n.disk; inside = n.inside; held = n.held; here = n.here; next = n.next ∙ p } in
              same-disk n'

      new-alike : (x y t : ℕ) (n : Met L e x y) → seen' x ≡ true → seen' y ≡ true → links' t ≡ true → closed' t ≡ false
          → (n.disk ≡ disk' t → ⊥) → way' x t ≡ way' y t
      unfolding met_back
      new-alike x y t n h k l c =
          let loose : closed t ≡ false = or_left (closed t) (closes t) (sym (shut t) ∙ c) in
          let none : closes t ≡ false = or_right (closed t) (closes t) (sym (shut t) ∙ c) in
          split (λ x. (y : ℕ) (n : Met L e x y) → seen' x ≡ true → seen' y ≡ true → (n.disk ≡ disk' t → ⊥) → way' x t ≡ way' y t) u
          (split (λ y. (n : Met L e u y) → seen' u ≡ true → seen' y ≡ true → (n.disk ≡ disk' t → ⊥) → way' u t ≡ way' y t) u
          (λ n. absurd (no_loop u n))
          (λ y p n _ h off. alike-u y t n (was_old saw y p h) none off ∙ sym (kept y p t)))
          (λ x o.
          split (λ y. (n : Met L e x y) → seen' x ≡ true → seen' y ≡ true → (n.disk ≡ disk' t → ⊥) → way' x t ≡ way' y t) u
          (λ n h _ off. kept x o t ∙ sym (alike-u x t (met_back L two e x u n) (was_old saw x o h) none off))
          (λ y p n h k off.
          kept x o t
          ∙ split (λ t. links' t ≡ true → closed t ≡ false → (n.disk ≡ disk' t → ⊥) → way x t ≡ way y t) u
          (λ _ _ _. off-ways x (was_old saw x o h) ∙ sym (off-ways y (was_old saw y p k)))
          (λ t z l loose off.
          f.alike x y t n (was_old saw x o h) (was_old saw y p k) (was_old linked t z l) loose (λ w. off (w ∙ sym (disk-old t z))))
          t l loose off
          ∙ sym (kept y p t)))
          x y n h k

      -- ---- closed links

      -- Stripes with and without a link on their ways are joined besides: then the link is joined with the stripe that it is reached from.
      around : (t a b : ℕ) → links' t ≡ true → seen' a ≡ true → seen' b ≡ true → way' a t ≡ true → way' b t ≡ false → root'' a ≡ root'' b
          → (c : ℕ → Bool) → ((d : ℕ) → without tree' (disk' t) d ≡ true → c d ≡ true) → joined L c a b ≡ true
          → joined L c t (from_over L disk' t) ≡ true
      around t a b l h k on-it off-it same c wide j =
          let s : ℕ = from_over L disk' t in
          let (back, part) = new-behind t a l h on-it in
          let root-b : root'' b ≡ root'' s = sym same ∙ part ∙ sym (new-same-root t l) in
          let wider : (x y : ℕ) → joined L (without tree' (disk' t)) x y ≡ true → joined L c x y ≡ true = joined_wider L (without tree' (disk' t)) c wide in
          joined_chain L c t a s (joined_back L c a t (wider a t back))
          (joined_chain L c a b s j
          (joined_chain L c b (root'' b) s (wider b (root'' b) (new-away t b l k off-it))
          (joined_back L c s (root'' b) (wider s (root'' b) (rw root-b (new-away t s l (new-before t l) (new-fresh t l)))))))

      closes-link : (t : ℕ) → closes t ≡ true → links' t ≡ true
      closes-link t c =
          let (y, h, n, off, differ) = some-close t c in
          by_cases (λ (b : Bool). way' u t ≡ b → links' t ≡ true) (way' u t) (λ _ w. new-way-links u t (with_u saw) w)
          (λ _ w.
          by_cases (λ (b : Bool). way y t ≡ b → links' t ≡ true) (way y t) (λ _ v. with_old linked t (f.way_links y t h v))
          (λ _ v. absurd (differ (w ∙ sym v))) refl)
          refl

      closes-sound : (t : ℕ) → closes t ≡ true → undetermined L e (disk' t) ≡ true
      unfolding undetermined
      closes-sound t shuts =
          let l = closes-link t shuts in
          let (y, h, n, off, differ) = some-close t shuts in
          let c : ℕ → Bool = without e (disk' t) in
          let wide : (d : ℕ) → without tree' (disk' t) d ≡ true → c d ≡ true =
          λ d k. is_without e (disk' t) d (tree-held d (without_sub tree' (disk' t) d k)) (without-apart tree' (disk' t) d k) in
          let j : joined L c u y ≡ true = met-joined L two c e u y n (is_without e (disk' t) n.disk n.held (other-disk y t n off l)) in
          let at_y : way' y t ≡ way y t = kept y (not-u y h) t in
          let same : root'' u ≡ root'' y = new-together u y n (with_u saw) (with_old saw y h) in
          and_both (new-held t l)
          (sym (either_end L two c (disk' t) t (new_inside t l) (new-here t l))
          ∙ by_cases (λ (b : Bool). way' u t ≡ b → joined L c t (from_over L disk' t) ≡ true) (way' u t)
          (λ _ w.
          by_cases (λ (b : Bool). way y t ≡ b → joined L c t (from_over L disk' t) ≡ true) (way y t) (λ _ v. absurd (differ (w ∙ sym v)))
          (λ _ v. around t u y l (with_u saw) (with_old saw y h) w (at_y ∙ v) same c wide j) refl)
          (λ _ w.
          by_cases (λ (b : Bool). way y t ≡ b → joined L c t (from_over L disk' t) ≡ true) (way y t)
          (λ _ v. around t y u l (with_old saw y h) (with_u saw) (at_y ∙ v) w (sym same) c wide (joined_back L c u y j))
          (λ _ v. absurd (differ (w ∙ sym v))) refl)
          refl)

      pub forest_link : (g : Forest L e seen' links' closed' way') × ((x : ℕ) → g.root x ≡ put u (f.root q) f.root x)
      unfolding root''
      forest_link = (
        record {
          disk = disk';
          tree = tree';
          root = root'';
          link_tree = new-tree;
          tree_link = new-tree-link;
          reached = each (λ t. seen' t ≡ true) (with_u saw) (λ t h p. with_old saw t (f.reached t h));
          inside = new_inside;
          held = new-held;
          here = new-here;
          before = new-before;
          fresh = new-fresh;
          longer = new-longer;
          same_root = new-same-root;
          way_links = new-way-links;
          to_root = new-to-root;
          away = new-away;
          behind = new-behind;
          together = new-together;
          alike = new-alike;
          closed_links = λ t h.
              ⊎_elim (λ k. with_old linked t (f.closed_links t k)) (closes-link t) (or_which (closed t) (closes t) (sym (shut t) ∙ h));
          sound = λ t h.
              ⊎_elim (λ k. ap (undetermined L e) (disk-old t (link-not-u t (f.closed_links t k))) ∙ f.sound t k) (closes-sound t)
              (or_which (closed t) (closes t) (sym (shut t) ∙ h));
        },
        λ x. refl,
      )
