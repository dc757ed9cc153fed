-- From what the library answers of a vertex to its entry for C; and that any two results of an entry that explains coincide. Assumes nothing.
use mathlib.Core.Path.{◌≡◌, sym, ap, ◌∙◌}
use mathlib.Core.List.{List}
use Prim.Native.Nat.{ℕ}
use lib.Ieee.{Float}
use lib.IntN.{ℤ}
use Rattle.explaining.specs.Fates.{FateFound}
use Rattle.telling.specs.Outputs.{fate_status, fate_class, fate_owner, fate_vertex, answer_status, answer_output, answer_vertex, vertex_status, x_kind_of, x_fraction_of, y_kind_of, y_fraction_of}
use Rattle.contour.proofs.Theorems.{one_answer}
use Rattle.contour_c.specs.Why.{FateEntry, VertexEntry}
use Rattle.std.specs.Prelude.{Result}
use Rattle.error.specs.declared.Refusal.{Refusal}
use Rattle.deciding.specs.declared.Decision.{Decision}
use Rattle.smoothing.specs.declared.VertexMoves.{VertexMoves}

pub vertex-entry : {found answer : Result VertexMoves Refusal} {xk : ℕ} {xf : Float} {yk : ℕ} {yf : Float} {status xk' : ℕ} {xf' : Float} {yk' : ℕ} {yf' : Float} → found ≡ answer
    → (status ≡ vertex_status found) × ((xk' ≡ x_kind_of xk found) × ((xf' ≡ x_fraction_of xf found) × ((yk' ≡ y_kind_of yk found) × (yf' ≡ y_fraction_of yf found))))
    → VertexEntry answer xk xf yk yf status xk' xf' yk' yf'
vertex-entry {xk = xk} {xf = xf} {yk = yk} {yf = yf} e told = record {
  status-is = told.0 ∙ ap vertex_status e;
  x-kind-is = told.1.0 ∙ ap (x_kind_of xk) e;
  x-fraction-is = told.1.1.0 ∙ ap (x_fraction_of xf) e;
  y-kind-is = told.1.1.1.0 ∙ ap (y_kind_of yk) e;
  y-fraction-is = told.1.1.1.1 ∙ ap (y_fraction_of yf) e;
}

pub answer-entry : (old : ℤ) (old' : ℕ) {found answer : Result Decision Refusal} {status : ℕ} {new : ℤ} {new' : ℕ} → found ≡ answer
    → (status ≡ answer_status found) × ((new ≡ answer_output old found) × (new' ≡ answer_vertex old' found))
    → (status ≡ answer_status answer) × ((new ≡ answer_output old answer) × (new' ≡ answer_vertex old' answer))
answer-entry old old' e told = (told.0 ∙ ap answer_status e, (told.1.0 ∙ ap (answer_output old) e, told.1.1 ∙ ap (answer_vertex old') e))

-- ---- one result

-- two results that meet the contract of contour_ring_fate, contour_polygon_answer or contour_smoothed_vertex on the same entry are equal
pub one-fate-entry : (ps directory : List ℕ) (rings i : ℕ) {ring class owner vertex : ℕ} {p pc po pv q qc qo qv : ℕ} → FateEntry (FateFound ps directory rings i) ring class owner vertex p pc po pv
    → FateEntry (FateFound ps directory rings i) ring class owner vertex q qc qo qv → (p ≡ q) × (pc ≡ qc) × (po ≡ qo) × (pv ≡ qv)
one-fate-entry ps directory rings i {ring} {class} {owner} {vertex} a b =
    let same = one_answer a.found.answers b.found.answers in (
      a.status-is ∙ ap fate_status same ∙ sym b.status-is,
      a.class-is ∙ ap (fate_class class) same ∙ sym b.class-is,
      a.owner-is ∙ ap (fate_owner ring owner) same ∙ sym b.owner-is,
      a.vertex-is ∙ ap (fate_vertex vertex) same ∙ sym b.vertex-is,
    )

pub one-answer-entry : (given : Result Decision Refusal) (old : ℤ) (old' : ℕ) {p q : ℕ} {pa qa : ℤ} {pv qv : ℕ} → (p ≡ answer_status given) × (pa ≡ answer_output old given) × (pv ≡ answer_vertex old' given)
    → (q ≡ answer_status given) × (qa ≡ answer_output old given) × (qv ≡ answer_vertex old' given) → (p ≡ q) × (pa ≡ qa) × (pv ≡ qv)
one-answer-entry given old old' a b = (one_answer a.0 b.0, one_answer a.1 b.1, one_answer a.2 b.2)

pub one-vertex-entry : {answer : Result VertexMoves Refusal} {xk : ℕ} {xf : Float} {yk : ℕ} {yf : Float} {p pxk : ℕ} {pxf : Float} {pyk : ℕ} {pyf : Float} {q qxk : ℕ} {qxf : Float} {qyk : ℕ} {qyf : Float}
    → VertexEntry answer xk xf yk yf p pxk pxf pyk pyf → VertexEntry answer xk xf yk yf q qxk qxf qyk qyf → (p ≡ q) × (pxk ≡ qxk) × (pxf ≡ qxf) × (pyk ≡ qyk) × (pyf ≡ qyf)
one-vertex-entry a b = (
  one_answer a.status-is b.status-is,
  one_answer a.x-kind-is b.x-kind-is,
  one_answer a.x-fraction-is b.x-fraction-is,
  one_answer a.y-kind-is b.y-kind-is,
  one_answer a.y-fraction-is b.y-fraction-is,
)
