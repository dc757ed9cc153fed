-- What the entries that explain a ring or a vertex return to C, and what they leave in their outputs, by what the library answers. Assumes nothing.
use Rattle.std.specs.Prelude.{◌≡◌, ℕ, Float, Result}
use Rattle.explaining.specs.declared.RingFate.{RingFate}
use Rattle.telling.specs.Outputs.{fate_status, fate_class, fate_owner, fate_vertex, vertex_status, x_kind_of, x_fraction_of, y_kind_of, y_fraction_of}
use Rattle.error.specs.declared.Refusal.{Refusal}
use Rattle.smoothing.specs.declared.VertexMoves.{VertexMoves}

-- a fate such as the library ensures: the status and the outputs are that answer's
pub record FateEntry (Found : Result RingFate Refusal → Type 0) (ring : ℕ) (class owner vertex : ℕ) (status class' owner' vertex' : ℕ) : Type 0 where
  pub answer : Result RingFate Refusal
  pub found : Found answer
  pub status-is : status ≡ fate_status answer
  pub class-is : class' ≡ fate_class class answer
  pub owner-is : owner' ≡ fate_owner ring owner answer
  pub vertex-is : vertex' ≡ fate_vertex vertex answer

-- what the library answers of a vertex, in the status and the outputs
pub record VertexEntry (answer : Result VertexMoves Refusal) (xk : ℕ) (xf : Float) (yk : ℕ) (yf : Float) (status xk' : ℕ) (xf' : Float) (yk' : ℕ) (yf' : Float) : Type 0 where
  pub status-is : status ≡ vertex_status answer
  pub x-kind-is : xk' ≡ x_kind_of xk answer
  pub x-fraction-is : xf' ≡ x_fraction_of xf answer
  pub y-kind-is : yk' ≡ y_kind_of yk answer
  pub y-fraction-is : yf' ≡ y_fraction_of yf answer
