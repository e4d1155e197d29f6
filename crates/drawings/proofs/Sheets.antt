-- The sheets of one, two and five points, the hook and the square. Assumes nothing.
use Rattle.std.proofs.Common.{◌≡◌, ℕ, ◌+◌, ◌<◌, ◌≤◌, cond, ◌&&◌, eqb, [], ◌∷◌, pos, ◌+ℤ◌, ◌≤ℤ◌, ◌<ℤ◌, sym, refl, ap, subst, inl, inr, arith}
use borrow.Author.Differences.{ints}
use Rattle.std.proofs.lemmas.Bool.Decides.{nat_tests}
use Rattle.segments.specs.Shapes.{Shape, Lawful, Point}
use Rattle.segments.specs.Segments.{segment, Named, ShapeArc}
use Rattle.segments.proofs.Forward.{unwired_lawful}
use Rattle.drawings.specs.Arcs.{Arcs, Arc, BetweenNames, HasOwn, Path, one, more, Open, NoneOpen}
use Rattle.drawings.specs.Drawings.{Drawing, Obeys}
use Rattle.drawings.specs.Flows.{Flows, units, Greatest, Coordinates, drawn, Exact}
use Rattle.drawings.specs.Examples.{nothing, coordinates, point, OnePoint, two, two_arcs, two_draft, TwoApart, TwoPoints, five, five_own, five_arcs, five_flow, five_lay, FivePoints, hook, hook_arcs, hook_draft, hook_lay, Hook, square, Square}
use Rattle.drawings.proofs.Climbing.{climbs_no_circle, obeys_climbs, contradictory_has_no_drawing}
use Rattle.drawings.proofs.Obeying.{crossing_no_way, obeying_is_simple}
use Rattle.drawings.proofs.Shortest.{exact_shows_greatest}
use Rattle.drawings.proofs.Units.{units_flow}
use Rattle.drawings.proofs.Listing.{each_of, each_direction, each_arc, each_number, listed_flows, listed_own, Kept, KeptRow, kept_at, listed_closed, listed_untouched, lawful_rising}

no_path : {R : ℕ → ℕ → Type 0} {a b : ℕ} → ((x y : ℕ) → R x y → ⊥) → Path R a b → ⊥
no_path h (one r) = h _ _ r
no_path h (more r p) = h _ _ r

-- without arcs
no_arc : (dir a b : ℕ) → Arc nothing dir a b → ⊥
no_arc = each_arc [] [] (λ dir a b. ⊥) tt tt

-- ---- one point
point_lawful : Lawful point
point_lawful = unwired_lawful point (omega arith) (omega arith) (λ d v. grind (arith, nat_tests))

point_own : HasOwn point (Arc nothing)
point_own = listed_own point nothing (tt, λ h. absurd (h refl)) (tt, λ h. absurd (h refl))

point_closed : NoneOpen point (Arc nothing)
point_closed = listed_closed point (Arc nothing) (tt, λ _. (tt, λ _. kept_at point (Arc nothing) 1 (omega arith, omega arith)))

nothing_obeyed : (c : Drawing) → Obeys nothing c
nothing_obeyed c dir a b r = absurd (no_arc dir a b r)

nothing_exact : (s : Shape) (gap : Arcs) (c : Coordinates) → Exact s gap nothing c
nothing_exact s gap c dir a b h pa pb d = absurd (each_number [] [] (λ dir a b. ⊥) tt tt dir a b d)

origin : (dir a : ℕ) → coordinates [] [] dir a ≡ 0
origin dir a = grind (arith, nat_tests)

point_flows : Flows point nothing nothing
point_flows = listed_flows [] [] point nothing tt tt (tt, refl) (tt, refl)

pub one_point : (t : ℕ) → t ≡ 0 → OnePoint t
one_point t e =
    record {
      lawful = point_lawful;
      none_open = point_closed;
      drafts = record { holds = nothing_obeyed _; least = λ c p dir a n. omega (arith, origin dir a) };
      lays = record { holds = (nothing_obeyed _, nothing_exact point nothing _); least = λ c p dir a n. omega (arith, origin dir a) };
      greatest = exact_shows_greatest point point_lawful nothing (λ dir a b r. absurd (no_arc dir a b r)) nothing point_flows (coordinates [] []) (nothing_exact point nothing _) (nothing_obeyed _);
      simple = obeying_is_simple point point_lawful nothing point_own point_closed _ (nothing_obeyed _);
      total_is = ap pos (sym e);
    }

-- ---- two points
two_lawful : Lawful two
two_lawful = unwired_lawful two (omega arith) (omega arith) (λ d v. grind (arith, nat_tests))

-- row 1 and column 2 cross where both points lie at (0, 0)
two_open : Open two (Arc nothing) 1 2
two_open = (
  (omega arith, (omega arith, omega arith), refl),
  (omega arith, (omega arith, omega arith), refl),
  listed_untouched two 1 2 ((tt, λ p q. omega arith), λ p q. omega arith),
  λ apart.
      crossing_no_way two (Arc nothing) (drawn (coordinates [] [])) (λ dir a b r. absurd (no_arc dir a b r)) apart.1.0 1 2 (omega (arith, ints)) (omega (arith, ints)) (omega (arith, ints)) (omega (arith, ints)) apart.1.1,
)

-- with an arc of any gap
module _ (g : ℕ) (above : 1 ≤ g) where
  two_own : HasOwn two (Arc (two_arcs g))
  two_own = listed_own two (two_arcs g) ((tt, λ h. absurd (h refl)), λ h. absurd (h refl)) ((tt, λ h. absurd (h refl)), λ h. absurd (h refl))

  two_arc : Path (Arc (two_arcs g) 0) 1 2
  two_arc = one above

  two_closed : NoneOpen two (Arc (two_arcs g))
  two_closed =
      listed_closed two (Arc (two_arcs g)) (
        (tt, λ _. ((tt, λ _. inl (1, (omega arith, omega arith), refl, refl)), λ _. inr (1, two_arc))),
        λ _. ((tt, λ _. inr (2, two_arc)), λ _. inl (2, (omega arith, omega arith), refl, refl)),
      )

  two_obeys : Obeys (two_arcs g) (drawn (two_draft g))
  two_obeys = each_arc ((1, 2, g) ∷ []) [] (λ dir a b. (drawn (two_draft g) dir a +ℤ pos (two_arcs g dir a b)) ≤ℤ drawn (two_draft g) dir b) (omega (arith, ints), tt) tt

  two_least : (e : Coordinates) → Obeys (two_arcs g) (drawn e) → (dir a : ℕ) → Named two dir a → two_draft g dir a ≤ e dir a
  two_least e obeys dir a n =
      each_direction (λ dir. two_draft g dir a ≤ e dir a)
      (let h = obeys 0 1 2 above in each_of 2 (λ a. two_draft g 0 a ≤ e 0 a) ((tt, omega arith), omega (arith, ints)) a n.1)
      (each_of 2 (λ a. two_draft g 1 a ≤ e 1 a) ((tt, omega arith), omega arith) a n.1)
      dir n.0

  two_apart : TwoApart g 2
  two_apart =
      record {
        apart = (two_open.2, (1, two_arc));
        none_open = two_closed;
        drafts = record { holds = two_obeys; least = two_least };
        simple = obeying_is_simple two two_lawful (two_arcs g) two_own two_closed (drawn (two_draft g)) two_obeys;
      }

two_sheet : TwoPoints 2
two_sheet = record { lawful = two_lawful; open_before = two_open; apart_after = two_apart }

pub two_points : (c : ℕ) → c ≡ 2 → TwoPoints c
two_points c e = subst TwoPoints (sym e) two_sheet

-- ---- five points
five_lawful : Lawful five
five_lawful =
    lawful_rising five (omega arith) (omega arith) (λ d v h. (grind (arith, nat_tests), (grind (arith, nat_tests), grind (arith, nat_tests)))) (λ d v h. (grind (arith, nat_tests), grind (arith, nat_tests)))
    (λ dir v w h pv pw. ((λ e. grind (arith, nat_tests)), λ e. grind (arith, nat_tests))) (λ dir v. v) (λ dir v h d. grind (arith, nat_tests))

five_has_own : (gap : Arcs) → Arc gap 0 1 2 → Arc gap 0 1 4 → Arc gap 1 1 3 → Arc gap 1 1 5 → HasOwn five (Arc gap)
five_has_own gap p q r t =
    listed_own five gap (((((tt, λ h. p), λ h. absurd (h refl)), λ h. q), λ h. absurd (h refl)), λ h. absurd (h refl))
    (((((tt, λ h. r), λ h. t), λ h. absurd (h refl)), λ h. absurd (h refl)), λ h. absurd (h refl))

five_all : HasOwn five (Arc five_arcs)
five_all = five_has_own five_arcs (omega arith) (omega arith) (omega arith) (omega arith)

-- a drawing that obeys the shape's own arcs, and in which row 3 and column 2 cross
five_crossing : Coordinates
five_crossing = coordinates ((2, 1) ∷ ((4, 2) ∷ [])) ((3, 1) ∷ ((5, 2) ∷ []))

five_rises : (dir a b : ℕ) → Arc five_own dir a b → drawn five_crossing dir a <ℤ drawn five_crossing dir b
unfolding five_crossing
five_rises =
    each_arc ((1, 2, 1) ∷ ((1, 4, 1) ∷ [])) ((1, 3, 1) ∷ ((1, 5, 1) ∷ [])) (λ dir a b. drawn five_crossing dir a <ℤ drawn five_crossing dir b)
    (omega (arith, ints), (omega (arith, ints), tt)) (omega (arith, ints), (omega (arith, ints), tt))

five_open : Open five (Arc five_own) 3 2
unfolding five_crossing
five_open = (
  (omega arith, (omega arith, omega arith), refl),
  (omega arith, (omega arith, omega arith), refl),
  listed_untouched five 3 2 (((((tt, λ p q. omega arith), λ p q. omega arith), λ p q. omega arith), λ p q. omega arith), λ p q. omega arith),
  λ apart. crossing_no_way five (Arc five_own) (drawn five_crossing) five_rises apart.1.0 3 2 (omega (arith, ints)) (omega (arith, ints)) (omega (arith, ints)) (omega (arith, ints)) apart.1.1,
)

five_named : BetweenNames five (Arc five_arcs)
five_named =
    each_arc ((1, 2, 1) ∷ ((1, 4, 1) ∷ [])) ((1, 3, 1) ∷ ((1, 5, 1) ∷ ((5, 3, 1) ∷ []))) (λ dir a b. Named five dir a × Named five dir b) (
      ((omega arith, (omega arith, omega arith), refl), (omega arith, (omega arith, omega arith), refl)),
      (((omega arith, (omega arith, omega arith), refl), (omega arith, (omega arith, omega arith), refl)), tt),
    ) (
      ((omega arith, (omega arith, omega arith), refl), (omega arith, (omega arith, omega arith), refl)),
      (((omega arith, (omega arith, omega arith), refl), (omega arith, (omega arith, omega arith), refl)), (((omega arith, (omega arith, omega arith), refl), (omega arith, (omega arith, omega arith), refl)), tt)),
    )

five_obeys : Obeys five_arcs (drawn five_lay)
five_obeys =
    each_arc ((1, 2, 1) ∷ ((1, 4, 1) ∷ [])) ((1, 3, 1) ∷ ((1, 5, 1) ∷ ((5, 3, 1) ∷ []))) (λ dir a b. (drawn five_lay dir a +ℤ pos (five_arcs dir a b)) ≤ℤ drawn five_lay dir b)
    (omega (arith, ints), (omega (arith, ints), tt)) (omega (arith, ints), (omega (arith, ints), (omega (arith, ints), tt)))

five_exact : Exact five five_arcs five_flow five_lay
five_exact dir a b h pa pb d =
    each_number ((1, 2, 1) ∷ ((1, 4, 1) ∷ [])) ((1, 5, 2) ∷ ((5, 3, 1) ∷ [])) (λ dir a b. five_lay dir b ≡ five_lay dir a + five_arcs dir a b) (refl, (refl, tt)) (refl, (refl, tt)) dir a b d

five_flows : Flows five five_arcs five_flow
five_flows =
    listed_flows ((1, 2, 1) ∷ ((1, 4, 1) ∷ [])) ((1, 5, 2) ∷ ((5, 3, 1) ∷ [])) five five_arcs ((λ e. omega arith), ((λ e. omega arith), tt)) ((λ e. omega arith), ((λ e. omega arith), tt))
    (((((tt, refl), refl), refl), refl), refl) (((((tt, refl), refl), refl), refl), refl)

five_at : (v : ℕ) → Point five v → Kept five (Arc five_arcs) (segment five 1 v) (segment five 0 v)
five_at = kept_at five (Arc five_arcs)

five_row_1 : KeptRow five (Arc five_arcs) 1
five_row_1 = (((((tt, λ _. five_at 1 (omega arith, omega arith)), λ _. five_at 2 (omega arith, omega arith)), λ e. absurd (omega arith)), λ _. inr (3, one (omega arith))), λ e. absurd (omega arith))

five_row_3 : KeptRow five (Arc five_arcs) 3
five_row_3 = (((((tt, λ _. five_at 3 (omega arith, omega arith)), λ _. inr (4, one (omega arith))), λ e. absurd (omega arith)), λ _. five_at 4 (omega arith, omega arith)), λ e. absurd (omega arith))

five_row_5 : KeptRow five (Arc five_arcs) 5
five_row_5 = (((((tt, λ _. inr (2, one (omega arith))), λ _. five_at 5 (omega arith, omega arith)), λ e. absurd (omega arith)), λ _. inr (3, one (omega arith))), λ e. absurd (omega arith))

five_closed : NoneOpen five (Arc five_arcs)
five_closed = listed_closed five (Arc five_arcs) (((((tt, λ _. five_row_1), λ e. absurd (omega arith)), λ _. five_row_3), λ e. absurd (omega arith)), λ _. five_row_5)

five_least : (e : Coordinates) → Obeys five_arcs (drawn e) → (dir a : ℕ) → Named five dir a → five_lay dir a ≤ e dir a
five_least e obeys dir a n =
    let p = obeys 0 1 2 (omega arith) in
    let q = obeys 0 1 4 (omega arith) in
    let r = obeys 1 1 5 (omega arith) in
    let t = obeys 1 5 3 (omega arith) in
    each_direction (λ dir. five_lay dir a ≤ e dir a)
    (each_of 5 (λ a. five_lay 0 a ≤ e 0 a) (((((tt, omega arith), omega (arith, ints)), omega arith), omega (arith, ints)), omega arith) a n.1)
    (each_of 5 (λ a. five_lay 1 a ≤ e 1 a) (((((tt, omega arith), omega arith), omega (arith, ints)), omega arith), omega (arith, ints)) a n.1)
    dir n.0

five_not_greatest : ¬ Greatest five five_arcs (units five)
five_not_greatest best = let h : 3 ≤ 2 = (best 1 (omega arith)).most (five_flow 1) (five_flows 1 (omega arith)) in omega arith

pub five_points : (t : ℕ) → t ≡ 5 → FivePoints t
five_points t e =
    record {
      lawful = five_lawful;
      own = five_has_own five_own (omega arith) (omega arith) (omega arith) (omega arith);
      open_before = five_open;
      named = five_named;
      complete_after = record { own = five_all; no_circle = climbs_no_circle (Arc five_arcs) (drawn five_lay) (obeys_climbs five_arcs (drawn five_lay) five_obeys); none_open = five_closed };
      greatest = exact_shows_greatest five five_lawful five_arcs five_named five_flow five_flows five_lay five_exact five_obeys;
      lays = record { holds = (five_obeys, five_exact); least = λ c p. five_least c p.0 };
      simple = obeying_is_simple five five_lawful five_arcs five_all five_closed (drawn five_lay) five_obeys;
      total_is = ap pos (sym e);
      units_flow = λ dir h. units_flow five five_lawful dir h five_arcs five_all;
      units_sum = refl;
      better_sum = refl;
      units_not_greatest = five_not_greatest;
    }

-- ---- the hook
hook_lawful : Lawful hook
hook_lawful =
    lawful_rising hook (omega arith) (omega arith) (λ d v h. (grind (arith, nat_tests), (grind (arith, nat_tests), grind (arith, nat_tests)))) (λ d v h. (grind (arith, nat_tests), grind (arith, nat_tests)))
    (λ dir v w h pv pw. ((λ e. grind (arith, nat_tests)), λ e. grind (arith, nat_tests))) (λ dir v. v) (λ dir v h d. grind (arith, nat_tests))

hook_own : HasOwn hook (Arc hook_arcs)
hook_own =
    listed_own hook hook_arcs (((((tt, λ h. omega arith), λ h. omega arith), λ h. absurd (h refl)), λ h. omega arith), λ h. absurd (h refl))
    (((((tt, λ h. absurd (h refl)), λ h. absurd (h refl)), λ h. omega arith), λ h. absurd (h refl)), λ h. absurd (h refl))

hook_at : (v : ℕ) → Point hook v → Kept hook (Arc hook_arcs) (segment hook 1 v) (segment hook 0 v)
hook_at = kept_at hook (Arc hook_arcs)

hook_row_1 : KeptRow hook (Arc hook_arcs) 1
hook_row_1 = (((((tt, λ _. hook_at 1 (omega arith, omega arith)), λ _. hook_at 2 (omega arith, omega arith)), λ _. hook_at 3 (omega arith, omega arith)), λ _. inr (3, one (omega arith))), λ e. absurd (omega arith))

hook_row_4 : KeptRow hook (Arc hook_arcs) 4
hook_row_4 = (((((tt, λ _. inr (4, one (omega arith))), λ _. inr (4, one (omega arith))), λ _. hook_at 5 (omega arith, omega arith)), λ _. hook_at 4 (omega arith, omega arith)), λ e. absurd (omega arith))

hook_closed : NoneOpen hook (Arc hook_arcs)
hook_closed = listed_closed hook (Arc hook_arcs) (((((tt, λ _. hook_row_1), λ e. absurd (omega arith)), λ e. absurd (omega arith)), λ _. hook_row_4), λ e. absurd (omega arith))

hook_named : BetweenNames hook (Arc hook_arcs)
hook_named =
    each_arc ((1, 2, 1) ∷ ((2, 3, 1) ∷ ((4, 3, 1) ∷ []))) ((1, 4, 1) ∷ []) (λ dir a b. Named hook dir a × Named hook dir b) (
      ((omega arith, (omega arith, omega arith), refl), (omega arith, (omega arith, omega arith), refl)),
      (((omega arith, (omega arith, omega arith), refl), (omega arith, (omega arith, omega arith), refl)), (((omega arith, (omega arith, omega arith), refl), (omega arith, (omega arith, omega arith), refl)), tt)),
    )
    (((omega arith, (omega arith, omega arith), refl), (omega arith, (omega arith, omega arith), refl)), tt)

hook_flows : Flows hook hook_arcs hook_arcs
hook_flows =
    listed_flows ((1, 2, 1) ∷ ((2, 3, 1) ∷ ((4, 3, 1) ∷ []))) ((1, 4, 1) ∷ []) hook hook_arcs ((λ e. omega arith), ((λ e. omega arith), ((λ e. omega arith), tt))) ((λ e. omega arith), tt)
    (((((tt, refl), refl), refl), refl), refl) (((((tt, refl), refl), refl), refl), refl)

-- both drawings obey, as column 4 lies left of column 3 in both
hook_obeys : (c : Coordinates) → c 0 2 ≡ c 0 1 + 1 → c 0 3 ≡ c 0 2 + 1 → c 0 4 < c 0 3 → c 1 4 ≡ c 1 1 + 1 → Obeys hook_arcs (drawn c)
hook_obeys c p q r t =
    each_arc ((1, 2, 1) ∷ ((2, 3, 1) ∷ ((4, 3, 1) ∷ []))) ((1, 4, 1) ∷ []) (λ dir a b. (drawn c dir a +ℤ pos (hook_arcs dir a b)) ≤ℤ drawn c dir b)
    (omega (arith, ints), (omega (arith, ints), (omega (arith, ints), tt))) (omega (arith, ints), tt)

hook_draft_obeys : Obeys hook_arcs (drawn hook_draft)
hook_draft_obeys = hook_obeys hook_draft refl refl (omega arith) refl

hook_lay_obeys : Obeys hook_arcs (drawn hook_lay)
hook_lay_obeys = hook_obeys hook_lay refl refl (omega arith) refl

hook_exact : Exact hook hook_arcs hook_arcs hook_lay
hook_exact dir a b h pa pb d =
    each_number ((1, 2, 1) ∷ ((2, 3, 1) ∷ ((4, 3, 1) ∷ []))) ((1, 4, 1) ∷ []) (λ dir a b. hook_lay dir b ≡ hook_lay dir a + hook_arcs dir a b) (refl, (refl, (refl, tt))) (refl, tt) dir a b d

-- column 4 lies at k or beyond
hook_least : (c : Coordinates) → Obeys hook_arcs (drawn c) → (k : ℕ) → k ≤ c 0 4 → (dir a : ℕ) → Named hook dir a → coordinates ((2, 1) ∷ ((3, 2) ∷ ((4, k) ∷ []))) ((4, 1) ∷ []) dir a ≤ c dir a
hook_least c obeys k h dir a n =
    let p = obeys 0 1 2 (omega arith) in
    let q = obeys 0 2 3 (omega arith) in
    let r = obeys 1 1 4 (omega arith) in
    each_direction (λ dir. coordinates ((2, 1) ∷ ((3, 2) ∷ ((4, k) ∷ []))) ((4, 1) ∷ []) dir a ≤ c dir a)
    (each_of 5 (λ a. coordinates ((2, 1) ∷ ((3, 2) ∷ ((4, k) ∷ []))) ((4, 1) ∷ []) 0 a ≤ c 0 a) (((((tt, omega arith), omega (arith, ints)), omega (arith, ints)), h), omega arith) a n.1)
    (each_of 5 (λ a. coordinates ((2, 1) ∷ ((3, 2) ∷ ((4, k) ∷ []))) ((4, 1) ∷ []) 1 a ≤ c 1 a) (((((tt, omega arith), omega arith), omega arith), omega (arith, ints)), omega arith) a n.1)
    dir n.0

hook_draft_is : (dir a : ℕ) → hook_draft dir a ≡ coordinates ((2, 1) ∷ ((3, 2) ∷ ((4, 0) ∷ []))) ((4, 1) ∷ []) dir a
hook_draft_is dir a = grind (arith, nat_tests)

pub hook_sheet : (t : ℕ) → t ≡ 4 → Hook t
hook_sheet t e =
    record {
      lawful = hook_lawful;
      complete = record { own = hook_own; no_circle = climbs_no_circle (Arc hook_arcs) (drawn hook_lay) (obeys_climbs hook_arcs (drawn hook_lay) hook_lay_obeys); none_open = hook_closed };
      greatest = exact_shows_greatest hook hook_lawful hook_arcs hook_named hook_arcs hook_flows hook_lay hook_exact hook_lay_obeys;
      drafts = record { holds = hook_draft_obeys; least = λ c obeys dir a n. omega (arith, hook_draft_is dir a, hook_least c obeys 0 (omega arith) dir a n) };
      draft_total = refl;
      lays = record { holds = (hook_lay_obeys, hook_exact); least = λ c p. hook_least c p.0 1 (far c p.0 p.1) };
      lay_total = ap pos (sym e);
    }
  where
    far : (c : Coordinates) → Obeys hook_arcs (drawn c) → Exact hook hook_arcs hook_arcs c → 1 ≤ c 0 4
    far c obeys exact =
        let p = obeys 0 1 2 (omega arith) in
        let q = obeys 0 2 3 (omega arith) in
        let r : c 0 3 ≡ c 0 4 + 1 = exact 0 4 3 (omega arith) (omega arith, omega arith) (omega arith, omega arith) (λ z. omega arith) in
        omega (arith, ints)

-- ---- the square
square_lawful : Lawful square
square_lawful =
    lawful_rising square (omega arith) (omega arith) (λ d v h. (grind (arith, nat_tests), (grind (arith, nat_tests), grind (arith, nat_tests)))) (λ d v h. (grind (arith, nat_tests), grind (arith, nat_tests)))
    (λ dir v w h pv pw. ((λ e. grind (arith, nat_tests)), λ e. grind (arith, nat_tests))) (λ dir v. cond (eqb dir 1 && eqb v 1) 5 v) (λ dir v h d. grind (arith, nat_tests))

square_circle : Path (ShapeArc square 0) 4 4
square_circle = more (1, (omega arith, (omega arith, omega arith), λ e. omega arith), refl, refl) (one (3, (omega arith, (omega arith, omega arith), λ e. omega arith), refl, refl))

pub square_sheet : (c : ℕ) → c ≡ 4 → Square c
square_sheet c e =
    record {
      lawful = square_lawful;
      circle = subst (λ (t : ℕ). Path (ShapeArc square 0) t t) (sym e) square_circle;
      contradictory = (0, 4, omega arith, square_circle);
      no_drawing = contradictory_has_no_drawing square (0, 4, omega arith, square_circle);
    }
