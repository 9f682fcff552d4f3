-- Errors of results of different kinds.
use Rattle.std.proofs.Common.{Result, Ok, Err, ap}
use Rattle.std.specs.Prelude.{IsErrOf}

error_or : {T E : Type 0} → Result T E → E → E
error_or (Ok value) other = other
error_or (Err error) other = error

-- An error stays the same whatever else the result could be.
pub same_error : {T U E : Type 0} (error is : E) → IsErrOf {T = T} (Err error) is → IsErrOf {T = U} (Err error) is
unfolding error_or
same_error error is h = ap Err (ap (λ r. error_or r error) h)
