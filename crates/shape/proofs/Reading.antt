-- What reading a file of either format comes to. Assumes nothing.
use Rattle.std.proofs.Common.{◌≡◌, ℕ, ◌+◌, ◌-◌, ◌*◌, ◌<◌, ◌≤◌, List, length, get_or, IsErrAnd, Ok, Err, Result, sym, ap, ◌∙◌, subst, inl, inr, arith, length-drop, MatchResult}
use native.Mathlib.Decide.{ℕ_discrete}
use Rattle.std.proofs.lemmas.Bool.{cases_order}
use Rattle.segments.specs.Shapes.{Shape, Within}
use Rattle.segments.proofs.Forward.{same_by_forward}
use Rattle.shape.specs.Formats.{Format, bytes_a_point, points_of, body_of, OtherLetter, coordinate, Joins, Nearest, Taken, Nowhere, Fits, Flawless, Sound, Leads, Tabled, Describes, Defines}
use Rattle.shape.specs.Formats.Format.{shape_record, old_sheet}

-- ---- at most one shape is described
-- two points nearest to v in one direction have one spot
same_spot : (n : ℕ) (body : List ℕ) (dir v w u : ℕ) → dir ≤ 1 → Nearest n body dir v w → Nearest n body dir v u → (d : ℕ) → d ≤ 1 → coordinate body d w ≡ coordinate body d u
same_spot n body dir v w u h a b d l =
    elim (ℕ_discrete d dir) [
      | yes e ↦
          let le = a.least u b.point b.beyond in
          let ge = b.least w a.point a.beyond in
          let eq : coordinate body dir w ≡ coordinate body dir u = omega arith in
          ap (λ (k : ℕ). coordinate body k w) e ∙ eq ∙ ap (λ (k : ℕ). coordinate body k u) (sym e)
      | no e ↦
          let o : d ≡ 1 - dir = omega arith in
          ap (λ (k : ℕ). coordinate body k w) o ∙ sym a.beyond.0 ∙ b.beyond.0 ∙ ap (λ (k : ℕ). coordinate body k u) (sym o)
    ]

-- points of one spot are one, where no spot is taken twice
pub one_spot : (n : ℕ) (body : List ℕ) → Nowhere n (Taken old_sheet n body) → (w u : ℕ) → Within n w → Within n u → ((d : ℕ) → d ≤ 1 → coordinate body d w ≡ coordinate body d u) → w ≡ u
one_spot n body untaken w u p q same =
    elim (cases_order w u) [
      | inl e ↦ e
      | inr r ↦ elim r [ inl l ↦ absurd (untaken u q (w, p.0, l, same)) | inr l ↦ absurd (untaken w p (u, q.0, l, λ d h. sym (same d h))) ]
    ]

pub one_nearest : (n : ℕ) (body : List ℕ) → Nowhere n (Taken old_sheet n body) → (dir v w u : ℕ) → dir ≤ 1 → Nearest n body dir v w → Nearest n body dir v u → w ≡ u
one_nearest n body untaken dir v w u h a b = one_spot n body untaken w u a.point b.point (same_spot n body dir v w u h a b)

pub joins? : (body : List ℕ) (dir v : ℕ) → Dec (Joins body dir v)
joins? body dir v =
    elim (ℕ_discrete (get_or body ((v - 1) * 3 + 2) 0) (dir + 1)) [
      | yes e ↦ yes (inl e)
      | no a ↦ elim (ℕ_discrete (get_or body ((v - 1) * 3 + 2) 0) 3) [ yes e ↦ yes (inr e) | no b ↦ no (λ j. elim j [ inl e ↦ a e | inr e ↦ b e ]) ]
    ]

one_led : (f : Format) (n : ℕ) (body : List ℕ) → Nowhere n (Taken f n body) → (dir v w u : ℕ) → dir ≤ 1 → Leads f n body dir v w → Leads f n body dir v u → w ≡ u
one_led shape_record n body untaken dir v w u h a b = a ∙ sym b
one_led old_sheet n body untaken dir v w u h a b =
    elim (joins? body dir v) [ yes j ↦ one_nearest n body untaken dir v w u h (a.0 j) (b.0 j) | no j ↦ a.1 j ∙ sym (b.1 j) ]

pub described_defines : (f : Format) (file : List ℕ) (s : Shape) → Sound f file → Describes f file s → Defines f file s
described_defines f file s sound d = record {
  describes = d;
  only = λ t e.
      let n = points_of file in
      let body = body_of file in
      let same : s.points ≡ t.points = d.points ∙ sym e.points in
      same_by_forward s t d.lawful e.lawful same (λ dir v h p.
      one_led f n body sound.1.1 dir v (s.next dir v) (t.next dir v) h
      (subst (λ (k : ℕ). Leads f k body dir v (s.next dir v)) d.points (d.leads dir v h p))
      (subst (λ (k : ℕ). Leads f k body dir v (t.next dir v)) e.points (e.leads dir v h (p.0, omega (arith, p.1)))));
}

-- ---- from the header and the checks over the points to the file
pub header_fits : (f : Format) (file : List ℕ) → ¬ OtherLetter f file → 1 ≤ points_of file → points_of file ≤ 128 → length (body_of file) ≡ bytes_a_point f * points_of file → Fits f file
header_fits f file begins some few long =
    let whole = length-drop 2 file in
    let two : ¬ (length file < 2) = λ h. begins (inl h) in
    (begins, λ m. elim m [ inl h ↦ omega arith | inr r ↦ elim r [ inl h ↦ omega arith | inr h ↦ h (omega arith) ] ])

module _ (f : Format) (file : List ℕ) (n : ℕ) (body : List ℕ) (en : n ≡ points_of file) (eb : body ≡ body_of file) (fits : Fits f file) where
  -- what holds of the number and the bytes holds of the file's
  of_file : (P : ℕ → List ℕ → Type 0) → P n body → P (points_of file) (body_of file)
  of_file P h = subst (λ (k : ℕ). P k (body_of file)) en (subst (P n) eb h)

  body_described : (s : Shape) → Tabled f n body s → Describes f file s
  body_described s t = record {
    lawful = t.lawful;
    points = t.points ∙ en;
    leads = λ dir v h p.
        subst (λ (k : ℕ). Leads f k (body_of file) dir v (s.next dir v)) (sym t.points)
        (subst (λ (bs : List ℕ). Leads f n bs dir v (s.next dir v)) eb (t.leads dir v h (p.0, omega (arith, p.1, t.points))));
  }

  pub body_defines : (s : Shape) → Tabled f n body s → Sound f file × Defines f file s
  body_defines s t =
      let sound : Sound f file = (fits, of_file (Flawless f) t.flawless) in
      (sound, described_defines f file s sound (body_described s t))

-- ---- an error that `?` hands on
pub handed_on : {T E : Type 0} (r : Result T E) (P : T → Type 0) (Q : E → Type 0) (e : E) → IsErrAnd r (λ y. y ≡ e) → Q e → MatchResult r P Q
handed_on (Ok x) P Q e h q = absurd h
handed_on (Err y) P Q e h q = subst Q (sym h) q
