-- A line that is answered by the rules keeps what is promised of one line. Assumes nothing.
use Rattle.std.proofs.Common.{◌≡◌, ℕ, Bool, true, false, ◌⊎◌, ◌↔◌, List, ℤ, pos, ◌≤ℤ◌, Decides, sym, refl, ◌∙◌, subst, inl, inr, arith}
use mathlib.Core.Path.{fun_ext}
use Rattle.segments.specs.Shapes.{Shape, Lawful}
use Rattle.segments.specs.Segments.{Named, ShapeArc}
use Rattle.drawings.specs.Arcs.{Arcs, Arc, Circle, Contradictory, NoneOpen}
use Rattle.drawings.specs.Drawings.{Drawing, SimpleDrawing, Obeys, total}
use Rattle.drawings.specs.Flows.{Greatest, Coordinates, drawn, Draft, Lay}
use Rattle.drawings.proofs.Climbing.{circle_map, obeys_climbs}
use Rattle.drawings.proofs.Carrying.{none_open_map}
use Rattle.drawings.proofs.Steps.{step_obeys}
use Rattle.drawings.proofs.Obeying.{obeying_is_simple}
use Rattle.drawings.proofs.Shortest.{lay_is_shortest}
use Rattle.logs.specs.Lines.{Line, add, arc, draft, lay, flow_of}
use Rattle.logs.specs.Force.{AcceptsAdd, AcceptsStrike, InForce, AddedAndKept, OneStepEach}
use Rattle.logs.specs.Refusing.{RefusesArc, RefusesAdd, RefusesDraft, MemoryFits, RefusesLay}
use Rattle.logs.specs.Answers.{Answer, done, told, paired, drew, refused, Pairs, HandsOut, AcceptsDraft, AcceptsLay, Judged, Answers, AnsweredAfter}
use Rattle.logs.specs.Promise.{ObeysForce, GreatestInForce, DraftInForce, LayInForce, MayDraft, MayLay, Tells, Drew, Sheet, ArcsOf, Moment}
use Rattle.logs.specs.declared.pairing.Pairing.{Pairing}
use Rattle.logs.specs.declared.refusal.Refusal.{Refusal}
use Rattle.logs.specs.declared.spot.Spot.{Spot}
use Rattle.logs.proofs.Stepping.{own_in_force, no_circle_in_force, arc_in_force, gap_one, gap_named, gap_own, add_accepted, add_never_both, arc_never_both, draft_never_both, lay_never_both}
use Rattle.logs.proofs.Telling.{in_force_as_the_log_tells}
use Rattle.logs.proofs.Giving.{given, given_no_circle, given_accepted, all_none_open}

-- ---- an answer is right, or a refusal that the rules give
pub judged : (Right : Answer → Type 0) (Refuses : Refusal → Type 0) (answer : Answer) → Judged Right Refuses answer → Right answer ⊎ ((e : Refusal) × (answer ≡ refused e) × Refuses e)
judged Right Refuses done r = inl r
judged Right Refuses (told t) r = inl r
judged Right Refuses (paired k) r = inl r
judged Right Refuses (drew sum places) r = inl r
judged Right Refuses (refused e) r = inr (e, refl, r)

-- what the rules call right
abbrev pub RightAdd : Shape → Arcs → ℕ → ℕ → ℕ → Answer → Type 0
RightAdd s gap dir a b r = (r ≡ done) × AcceptsAdd s (Arc gap) dir a b

abbrev pub RightStrike : Shape → Arcs → ℕ → ℕ → ℕ → Answer → Type 0
RightStrike s gap dir a b r = (r ≡ done) × AcceptsStrike s (Arc gap) dir a b

abbrev pub RightArc : Shape → Arcs → ℕ → ℕ → ℕ → Answer → Type 0
RightArc s gap dir a b r = (t : Bool) × (r ≡ told t) × Named s dir a × Named s dir b × Decides t (Arc gap dir a b)

abbrev pub RightPair : Shape → Arcs → ℕ → ℕ → Answer → Type 0
RightPair s gap r c a = (k : Pairing) × (a ≡ paired k) × Named s 1 r × Named s 0 c × Pairs s gap r c k

abbrev pub RightDraft : Shape → Arcs → ℕ → Answer → Type 0
RightDraft s gap n r = (sum : ℕ) × (places : List Spot) × (c : Coordinates) × (r ≡ drew sum places) × AcceptsDraft s gap n × Draft s gap c × HandsOut s c sum places

abbrev pub RightLay : Shape → Arcs → ℕ → List ℕ → List ℕ → Answer → Type 0
RightLay s gap n across up r = (sum : ℕ) × (places : List Spot) × (c : Coordinates) × (r ≡ drew sum places) × AcceptsLay s gap n across up × Lay s gap (flow_of s across up) c × HandsOut s c sum places

-- ---- two gap functions of one step for the same arcs agree
pub steps_agree : (force : ℕ → ℕ → ℕ → Type 0) (gap other : Arcs) → OneStepEach force gap → OneStepEach force other → gap ≡ other
steps_agree force gap other one two = fun_ext (λ dir. fun_ext (λ a. fun_ext (λ b. go dir a b (one dir a b) (two dir a b))))
  where
    go : (dir a b : ℕ) → (force dir a b × (gap dir a b ≡ 1)) ⊎ ((¬ force dir a b) × (gap dir a b ≡ 0)) → (force dir a b × (other dir a b ≡ 1)) ⊎ ((¬ force dir a b) × (other dir a b ≡ 0)) → gap dir a b ≡ other dir a b
    go dir a b (inl r) (inl q) = r.1 ∙ sym q.1
    go dir a b (inl r) (inr q) = absurd (q.0 r.0)
    go dir a b (inr r) (inl q) = absurd (r.0 q.0)
    go dir a b (inr r) (inr q) = r.1 ∙ sym q.1

module _ (s : Shape) (L : Lawful s) (log : List Line) where
  -- where the arcs in force close no circle, neither do the shape's
  drawable : ¬ Circle (InForce s log) → ¬ Contradictory s
  drawable clear k = clear (circle_map (ShapeArc s) (InForce s log) (own_in_force s log) k)

  module _ (gap : Arcs) (steps : OneStepEach (InForce s log) gap) (answer : Answer) where
    -- ---- an add, and a question
    pub add_done : (dir a b : ℕ) → Answers s gap (add dir a b) answer → AcceptsAdd s (InForce s log) dir a b → answer ≡ done
    add_done dir a b j w =
        elim (judged (RightAdd s gap dir a b) (RefusesAdd s gap dir a b) answer j) [
          | inl r ↦ r.0
          | inr r ↦ absurd (add_never_both s gap dir a b r.0 r.2 ((add_accepted s log gap steps dir a b).1 w))
        ]

    pub arc_told : (dir a b : ℕ) → Answers s gap (arc dir a b) answer → Named s dir a → Named s dir b → Tells answer (ShapeArc s dir a b ⊎ AddedAndKept s log dir a b)
    arc_told dir a b j na nb =
        elim (judged (RightArc s gap dir a b) (RefusesArc s dir a b) answer j) [
          | inl r ↦ go r.0 r.1 r.4
          | inr r ↦ absurd (arc_never_both s dir a b r.0 r.2 (na, nb))
        ]
      where
        go : (t : Bool) → answer ≡ told t → Decides t (Arc gap dir a b) → Tells answer (ShapeArc s dir a b ⊎ AddedAndKept s log dir a b)
        go true e d = inl (e, (in_force_as_the_log_tells s log dir a b).0 ((arc_in_force s log gap steps dir a b).0 (d.0 refl)))
        go false e d =
            inr (
              e,
              λ r.
                  let q = d.1 ((arc_in_force s log gap steps dir a b).1 ((in_force_as_the_log_tells s log dir a b).1 r)) in
                  let z : ◌≡◌ {A = ℕ} 0 1 = cc in omega arith,
            )

    -- ---- drawings
    not_refused : (e : Refusal) → answer ≡ refused e → ¬ Drew answer
    not_refused e q d = let f = d.2 in let z : ◌≡◌ {A = ℕ} 0 1 = cc in omega arith

    none_in_force : NoneOpen s (Arc gap) → NoneOpen s (InForce s log)
    none_in_force = none_open_map s (Arc gap) (InForce s log) (λ dir a b. (arc_in_force s log gap steps dir a b).0)

    none_by_gap : NoneOpen s (InForce s log) → NoneOpen s (Arc gap)
    none_by_gap = none_open_map s (InForce s log) (Arc gap) (λ dir a b. (arc_in_force s log gap steps dir a b).1)

    pub sheet : (c : Coordinates) (sum : ℕ) (places : List Spot) → NoneOpen s (Arc gap) → Obeys gap (drawn c) → HandsOut s c sum places → Sheet s log c sum places
    sheet c sum places none obeys out =
        record {
          handed_out = out;
          simple = obeying_is_simple s L gap (gap_own s log gap steps) none (drawn c) obeys;
          obeys = λ dir a b r. obeys_climbs gap (drawn c) obeys dir a b ((arc_in_force s log gap steps dir a b).1 r);
        }

    -- what is handed out, by another name
    same_out : (c : Coordinates) (sum sum' : ℕ) (places places' : List Spot) → answer ≡ drew sum places → answer ≡ drew sum' places' → HandsOut s c sum' places' → HandsOut s c sum places
    same_out c sum sum' places places' p q out =
        let e : sum' ≡ sum = cc in
        let f : places' ≡ places = cc in
        subst (λ (t : ℕ). HandsOut s c t places) e (subst (λ (t : List Spot). HandsOut s c sum' t) f out)

    -- ---- draft
    pub draft_exactly : (n : ℕ) → Answers s gap (draft n) answer → n ≡ s.points → Drew answer ↔ MayDraft s log
    draft_exactly n j fits = (
      λ d. elim (judged (RightDraft s gap n) (RefusesDraft s gap n) answer j) [
        | inl r ↦ record { no_circle = no_circle_in_force s log r.4.fits.0; none_open = none_in_force r.4.none_open }
        | inr r ↦ absurd (not_refused r.0 r.1 d)
      ],
      λ may. elim (judged (RightDraft s gap n) (RefusesDraft s gap n) answer j) [
        | inl r ↦ (r.0, r.1, r.3)
        | inr r ↦ absurd (draft_never_both s gap n r.0 r.2 (record { fits = (drawable may.no_circle, fits); none_open = none_by_gap may.none_open }))
      ],
    )

    pub draft_out : (n sum : ℕ) (places : List Spot) → Answers s gap (draft n) answer → answer ≡ drew sum places → (c : Coordinates) × DraftInForce s log c × Sheet s log c sum places
    draft_out n sum places j e =
        elim (judged (RightDraft s gap n) (RefusesDraft s gap n) answer j) [
          | inl r ↦ (r.2, (gap, steps, r.5), sheet r.2 sum places r.4.none_open r.5.holds (same_out r.2 sum r.0 places r.1 e r.3 r.6))
          | inr r ↦ absurd (not_refused r.0 r.1 (sum, places, e))
        ]

    -- ---- lay
    pub lay_exactly : (n : ℕ) (across up : List ℕ) → Answers s gap (lay n across up) answer → MemoryFits s n across up → Drew answer ↔ MayLay s log (flow_of s across up)
    lay_exactly n across up j fits = (
      λ d. elim (judged (RightLay s gap n across up) (RefusesLay s gap n across up) answer j) [
        | inl r ↦ record { no_circle = no_circle_in_force s log r.4.drawable; none_open = none_in_force r.4.none_open; greatest = (gap, steps, r.4.greatest) }
        | inr r ↦ absurd (not_refused r.0 r.1 d)
      ],
      λ may. elim (judged (RightLay s gap n across up) (RefusesLay s gap n across up) answer j) [
        | inl r ↦ (r.0, r.1, r.3)
        | inr r ↦ absurd (lay_never_both s gap n across up r.0 r.2 (record { drawable = drawable may.no_circle; fits = fits; none_open = none_by_gap may.none_open; greatest = here may.greatest }))
      ],
    )
      where
        here : GreatestInForce s log (flow_of s across up) → Greatest s gap (flow_of s across up)
        here g = subst (λ (t : Arcs). Greatest s t (flow_of s across up)) (steps_agree (InForce s log) g.0 gap g.1 steps) g.2

    pub lay_out : (n sum : ℕ) (across up : List ℕ) (places : List Spot) → Answers s gap (lay n across up) answer → answer ≡ drew sum places → (c : Coordinates) × LayInForce s log (flow_of s across up) c × Sheet s log c sum places
    lay_out n sum across up places j e =
        elim (judged (RightLay s gap n across up) (RefusesLay s gap n across up) answer j) [
          | inl r ↦ (r.2, (gap, steps, r.5), sheet r.2 sum places r.4.none_open r.5.holds.0 (same_out r.2 sum r.0 places r.1 e r.3 r.6))
          | inr r ↦ absurd (not_refused r.0 r.1 (sum, places, e))
        ]

    pub lay_shortest : (n sum : ℕ) (across up : List ℕ) (places : List Spot) → Answers s gap (lay n across up) answer → answer ≡ drew sum places → (e : Drawing) → ObeysForce s log e → pos sum ≤ℤ total s e
    lay_shortest n sum across up places j q e obeys =
        elim (judged (RightLay s gap n across up) (RefusesLay s gap n across up) answer j) [
          | inl r ↦ subst (λ (t : ℤ). t ≤ℤ total s e) (sym (same_out r.2 sum r.0 places r.1 q r.3 r.6).sum_of_wires)
              (lay_is_shortest s L gap (gap_named s log gap steps L) (flow_of s across up) r.4.greatest r.2 r.5 e (step_obeys gap (gap_one s log gap steps) e (λ dir a b w. obeys dir a b ((arc_in_force s log gap steps dir a b).0 w))))
          | inr r ↦ absurd (not_refused r.0 r.1 (sum, places, q))
        ]

    -- over a log of all arcs that a simple drawing gives
    pub lay_no_longer : (e : Drawing) → SimpleDrawing s e → ArcsOf s e log → (n : ℕ) (across up : List ℕ) → Answers s gap (lay n across up) answer → MemoryFits s n across up → GreatestInForce s log (flow_of s across up) → (sum : ℕ) × (places : List Spot) × (answer ≡ drew sum places) × (pos sum ≤ℤ total s e)
    lay_no_longer e simple w n across up j fits best =
        let may : MayLay s log (flow_of s across up) = record { no_circle = given_no_circle s L e simple.draws log w.only; none_open = all_none_open s L e simple log w; greatest = best } in
        let d = (lay_exactly n across up j fits).1 may in
        (d.0, d.1, d.2, lay_shortest n d.0 across up d.1 j d.2 e (λ dir a b r. (given s L e simple.draws log w.only dir a b r).2))

pub moment : (s : Shape) → Lawful s → (log : List Line) (line : Line) (answer : Answer) → AnsweredAfter s log line answer → Moment s log line answer
moment s L log line answer w =
    let gap = w.0 in
    let steps = w.1 in
    let by : (l : Line) → line ≡ l → Answers s gap l answer = λ l q. subst (λ (t : Line). Answers s gap t answer) q w.2 in
    record {
      answered_by_the_rules = w;
      no_added_arc_closes_a_circle = no_circle_in_force s log;
      arc_tells_exactly_what_is_in_force = λ dir a b q. arc_told s L log gap steps answer dir a b (by (arc dir a b) q);
      draft_draws_exactly_when_it_may = λ n q. draft_exactly s L log gap steps answer n (by (draft n) q);
      draft_hands_out_its_least_drawing = λ n sum places q. draft_out s L log gap steps answer n sum places (by (draft n) q);
      lay_draws_exactly_when_it_may = λ n across up q. lay_exactly s L log gap steps answer n across up (by (lay n across up) q);
      lay_hands_out_its_least_drawing = λ n sum across up places q. lay_out s L log gap steps answer n sum across up places (by (lay n across up) q);
      no_simple_drawing_is_shorter_than_lay = λ n sum across up places q r e simple. lay_shortest s L log gap steps answer n sum across up places (by (lay n across up) q) r e;
      each_arc_of_a_simple_drawing_is_accepted = λ e simple only dir a b q g. add_done s L log gap steps answer dir a b (by (add dir a b) q) (given_accepted s L e simple.draws log only dir a b g);
      lay_then_draws_no_longer = λ e simple arcs n across up q. lay_no_longer s L log gap steps answer e simple arcs n across up (by (lay n across up) q);
    }
