-- The same arcs said otherwise, or more arcs: what paths, pairs and complete extensions become. Assumes nothing.
use Rattle.std.proofs.Common.{◌≡◌, ℕ, zero, suc, ◌⊎◌, ◌↔◌, sym, ◌∙◌, subst, inl, inr}
use Rattle.segments.specs.Shapes.{Shape}
use Rattle.drawings.specs.Arcs.{Path, one, more, Way, Apart, Open, NoneOpen, Complete}
use Rattle.drawings.proofs.Climbing.{path_map, circle_map}
use Rattle.drawings.proofs.Reaching.{path_join}

-- ---- R and S are arcs
module _ (s : Shape) (R S : ℕ → ℕ → ℕ → Type 0) where
  -- what leads by R leads by S
  pub way_map : ((dir a b : ℕ) → R dir a b → S dir a b) → (k r c : ℕ) → Way s R k r c → Way s S k r c
  way_map f zero r c w = w
  way_map f (suc zero) r c w = f 0 _ _ w
  way_map f (suc (suc zero)) r c w = f 0 _ _ w
  way_map f (suc (suc (suc zero))) r c w = f 1 _ _ w
  way_map f (suc (suc (suc (suc zero)))) r c w = f 1 _ _ w
  way_map f (suc (suc (suc (suc (suc k))))) r c w = w

module _ (s : Shape) (R S : ℕ → ℕ → ℕ → Type 0) (f : (dir a b : ℕ) → R dir a b → S dir a b) where
  -- more arcs keep apart what was apart
  pub apart_map : (r c : ℕ) → Apart s R r c → Apart s S r c
  apart_map r c a = (a.0, (a.1.0, way_map s (λ dir. Path (R dir)) (λ dir. Path (S dir)) (λ dir x y p. path_map (f dir) p) a.1.0 r c a.1.1))

  -- and open no pair
  pub open_map : (r c : ℕ) → Open s S r c → Open s R r c
  open_map r c o = (o.0, o.1, o.2, λ a. o.3 (apart_map r c a))

  pub none_open_map : NoneOpen s R → NoneOpen s S
  none_open_map none r c o = none r c (open_map r c o)

-- the same arcs are a complete extension as well
pub complete_map : (s : Shape) (R S : ℕ → ℕ → ℕ → Type 0) → ((dir a b : ℕ) → R dir a b ↔ S dir a b) → Complete s R → Complete s S
complete_map s R S same c =
    record {
      own = λ dir a b r. (same dir a b).0 (c.own dir a b r);
      no_circle = λ k. c.no_circle (circle_map S R (λ dir a b. (same dir a b).1) k);
      none_open = none_open_map s R S (λ dir a b. (same dir a b).0) c.none_open;
    }

-- ---- S is R with one arc more, p→q
module _ (R S : ℕ → ℕ → Type 0) (p q : ℕ) (split : (a b : ℕ) → S a b → R a b ⊎ ((p ≡ a) × (q ≡ b))) where
  -- a path does without the arc, or leads to p and on from q
  pub path_parts : {a b : ℕ} → Path S a b → Path R a b ⊎ (((a ≡ p) ⊎ Path R a p) × ((q ≡ b) ⊎ Path R q b))
  path_parts {a} {b} (one r) = elim (split a b r) [ inl x ↦ inl (one x) | inr e ↦ inr (inl (sym e.0), inl e.1) ]
  path_parts {a} {b = c} (more {b = b} r k) = go (split a b r) (path_parts k)
    where
      go : R a b ⊎ ((p ≡ a) × (q ≡ b)) → Path R b c ⊎ (((b ≡ p) ⊎ Path R b p) × ((q ≡ c) ⊎ Path R q c)) → Path R a c ⊎ (((a ≡ p) ⊎ Path R a p) × ((q ≡ c) ⊎ Path R q c))
      go (inl x) (inl m) = inl (more x m)
      go (inl x) (inr m) = inr (elim m.0 [ inl e ↦ inr (one (subst (R a) e x)) | inr n ↦ inr (more x n) ], m.1)
      go (inr e) (inl m) = inr (inl (sym e.0), inr (subst (λ (t : ℕ). Path R t c) (sym e.1) m))
      go (inr e) (inr m) = inr (inl (sym e.0), m.1)

  -- an arc closes a circle only where its end reaches its beginning
  pub no_circle_closed : {a : ℕ} → ¬ (q ≡ p) → ¬ Path R q p → ¬ Path R a a → ¬ Path S a a
  no_circle_closed {a} apart none clear k =
      elim (path_parts k) [
        | inl x ↦ clear x
        | inr m ↦ elim m.0 [
          | inl e ↦ elim m.1 [ inl f ↦ apart (f ∙ e) | inr n ↦ none (subst (Path R q) e n) ]
          | inr h ↦ elim m.1 [ inl f ↦ none (subst (λ (t : ℕ). Path R t p) (sym f) h) | inr n ↦ none (path_join n h) ]
        ]
      ]
