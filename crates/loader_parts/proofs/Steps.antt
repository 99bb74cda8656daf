-- The steps of loading, one after the other.
use Rattle.std.proofs.Common.{◌≡◌, ◌≤◌, ℕ, sym, ap, subst}
use Rattle.std.specs.Prelude.{Result, Ok, Err, IsErrAnd}
use Rattle.cm_base.specs.Calls.{Gives}
use Rattle.cm_base.specs.Causes.{HasCause}
use Rattle.cm_base.specs.Diags.{◌>>=◌}
use Rattle.cm_base.specs.declared.diag.Diag.{Diag}
use Rattle.cm_base.specs.declared.fault.Fault.{Fault}
use Rattle.cm_base.specs.declared.fault.Fault.TheVariants as refusal
use Rattle.loader_parts.specs.Answers.{Loads, of_refusal}
use Rattle.loader_parts.specs.declared.fault.ReadFault.{ReadFault}
use Rattle.loader_parts.specs.declared.fault.ReadFault.TheVariants as fault

-- a step that stops stops the whole
pub stops : {A B : Type 0} (e : ReadFault) (m : Result A Diag) (next : A → Result B Diag)
    → Loads {A = A} (Err e) m → Loads {A = B} (Err e) (m >>= next)
stops (fault.Diag diag) m next is = ap (λ r. r >>= next) is
stops fault.Folder m next is = tt
stops fault.NoMemory m next is = tt

-- after a step that went on, the whole gives what the next gives
pub goes : {A B : Type 0} (r : Result B ReadFault) (m : Result A Diag) (value : A) (next : A → Result B Diag)
    → m ≡ Ok value → Loads r (next value) → Loads r (m >>= next)
goes r m value next is rest = subst (λ m. Loads r (m >>= next)) (sym is) rest

-- a refusal stays what it is
pub refused : {A : Type 0} (e : Fault) (m : Result A Diag) → Gives {A = A} (Err e) m
    → Loads {A = A} (Err (of_refusal e)) m
refused (refusal.Diag diag) m is = is
refused refusal.NoMemory m is = tt

-- the answer of a call that ends with a fault
pub ended : {A : Type 0} (r : Result A ReadFault) (e : ReadFault) (m : Result A Diag) → IsErrAnd r (λ y. y ≡ e)
    → Loads {A = A} (Err e) m → Loads r m
ended (Ok value) e m is stopped = absurd is
ended (Err y) e m is stopped = subst (λ y. Loads (Err y) m) (sym is) stopped

-- the answer of a call that passes a fault on
pub passed : {A B : Type 0} (r : Result B ReadFault) (e : ReadFault) (m : Result A Diag) (next : A → Result B Diag)
    → IsErrAnd r (λ y. y ≡ e) → Loads {A = A} (Err e) m → Loads r (m >>= next)
passed (Ok value) e m next is stopped = absurd is
passed (Err y) e m next is stopped = subst (λ y. Loads (Err y) (m >>= next)) (sym is) (stops e m next stopped)

-- the answer of a call that passes a refusal on
pub failed : {A : Type 0} (r : Result A ReadFault) (e : Fault) (read whole : Result A Diag)
    → IsErrAnd r (λ y. y ≡ of_refusal e) → read ≡ whole → Gives {A = A} (Err e) read → Loads r whole
failed (Ok value) e read whole is same gives = absurd is
failed (Err y) e read whole is same gives =
    subst (λ m. Loads (Err y) m) same (subst (λ y. Loads (Err y) read) (sym is) (refused e read gives))

-- a call that gives a value has no diagnostic to give
without_diag : {A B : Type 0} (e : ReadFault) (value : A) (m : Result B Diag) → Loads {A = A} (Err e) (Ok value)
    → Loads {A = B} (Err e) m
without_diag (fault.Diag diag) value m none = absurd (cc)
without_diag fault.Folder value m none = tt
without_diag fault.NoMemory value m none = tt

pub unread : {A B : Type 0} (r : Result B ReadFault) (e : ReadFault) (value : A) (m : Result B Diag)
    → IsErrAnd r (λ y. y ≡ e) → Loads {A = A} (Err e) (Ok value) → Loads r m
unread r e value m is none = ended r e m is (without_diag e value m none)

pub read_is : {A : Type 0} (wanted value : A) → Loads {A = A} (Ok value) (Ok wanted) → value ≡ wanted
read_is wanted value is = sym (cc)

-- a refusal blames no folder
not_folder : {A : Type 0} (r : Result A ReadFault) (e : Fault) → IsErrAnd r (λ y. y ≡ of_refusal e)
    → r ≡ Err fault.Folder → ⊥
not_folder (Ok value) e is failed = absurd is
not_folder (Err y) (refusal.Diag diag) is failed = absurd (cc)
not_folder (Err y) refusal.NoMemory is failed = absurd (cc)

pub no_cause : {A : Type 0} (r : Result A ReadFault) (e : Fault) (before now : ℕ) → IsErrAnd r (λ y. y ≡ of_refusal e)
    → before ≤ now → HasCause before now (r ≡ Err fault.Folder)
no_cause r e before now is later = record { later = later; rose = λ failed. absurd (not_folder r e is failed) }
