-- How the operations' names and the names held go together.
use Rattle.std.specs.Prelude.{◌≡◌, ℕ, ◌<◌, Some}
use Rattle.records.specs.declared.handles.OpPtr.{OpPtr}
use Rattle.records.specs.declared.operation.Operation.{Operation}
use Rattle.records.specs.Models.{Model, operation_at}

-- the name of every live operation is one of the n that are held
pub record NumbersHeld (m : Model) (n : ℕ) : Type 0 where
  pub number : (op : OpPtr) (o : Operation) (i : ℕ) → operation_at m op ≡ Some o → o.name ≡ Some i → i < n
