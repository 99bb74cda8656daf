-- Calls one after the other: what a chain of inference gives, from what calls answer of its parts.
use Rattle.std.proofs.Common.{◌≡◌, ℕ, List, refl, sym, ap, ◌∙◌, subst}
use Rattle.std.specs.Prelude.{Result, Ok, Err, OnOk, IsErrAnd}
use Rattle.cm_base.specs.declared.fault.Fault.{Fault}
use Rattle.cm_base.specs.declared.fault.Fault.TheVariants as fault
use Rattle.semantic_objects.specs.Environments.{Top}
use Rattle.type_nodes.specs.Tables.{Table}
use Rattle.sml_modules.specs.Graphs.{Graph, Keeps}
use Rattle.sml_modules.proofs.Keeping.{keeps, extends_self}
use Rattle.static_semantics.specs.Inferring.{Answer, ◌>>=◌, gives}
use Rattle.core_scopes.specs.Scopes.{AreBare}
use Rattle.type_phrases.specs.Inferred.{Answers}
use Rattle.type_phrases.proofs.Keeping.{keeps_all, keeps_later}
use Rattle.core_rules.proofs.Chains.{graph_then, answers_stop}
use Rattle.module_scopes.specs.declared.top.TopScope.{TopScope}
use Rattle.module_scopes.specs.Tops.{top_seen, IsTopScope}
use Rattle.module_scopes.proofs.Tops.{tops_stay}
use Rattle.structure_elab.specs.Moments.{Moment, moment, seen_at, Passes, Elabs}

-- ---- what is kept from one moment to a later one

-- what is in scope alone may have changed
pub passes_top : (m : Moment) (top : TopScope) → Passes m (moment m.graph m.table top)
passes_top m top = record {
  graph = keeps m.graph m.graph (extends_self m.graph);
  home = refl;
  ids = keeps_all m.table;
}

pub passes_then : {a b c : Moment} → Passes a b → Passes b c → Passes a c
passes_then {a} {b} {c} h k = record {
  graph = graph_then a.graph b.graph c.graph h.graph k.graph;
  home = k.home ∙ h.home;
  ids = keeps_later a.table b.table c.table h.ids k.ids;
}

-- .. whatever is in scope at both
pub passes_over : {old new : Moment} (before after : TopScope) → Passes old new
    → Passes (moment old.graph old.table before) (moment new.graph new.table after)
passes_over before after p = record { graph = p.graph; home = p.home; ids = p.ids }

pub seen_kept : {old new : Moment} → IsTopScope old.graph old.top → Passes old new → new.top ≡ old.top
    → seen_at new ≡ seen_at old
seen_kept {old} {new} there p e =
    ap (λ (top : TopScope). top_seen new.graph top) e ∙ tops_stay.seen old.graph new.graph old.top p.graph there

pub there_kept : {old new : Moment} → IsTopScope old.graph old.top → Passes old new → new.top ≡ old.top
    → IsTopScope new.graph new.top
there_kept {old} {new} there p e = subst (λ (top : TopScope). IsTopScope new.graph top) (sym e)
    (tops_stay.scope old.graph new.graph old.top p.graph there)

pub bare_kept : {old new : TopScope} → AreBare old.core → new ≡ old → AreBare new.core
bare_kept {old} {new} h e = subst (λ (top : TopScope). AreBare top.core) (sym e) h

-- ---- chains

pub answers_go : {A B Q : Type 0} (want : Answer A) (x : A) (k : A → Answer B) (told : Q → B) (r : Result Q Fault)
    → want ≡ gives x → Answers (k x) told r → Answers (want >>= k) told r
answers_go want x k told r h l = subst (λ m. Answers (m >>= k) told r) (sym h) l

left_then : {Q : Type 0} (r : Result Q Fault) (a b c : TopScope) → OnOk r (c ≡ b) → b ≡ a → OnOk r (c ≡ a)
left_then (Ok x) a b c h e = h ∙ e
left_then (Err f) a b c h e = tt

pub same_left : {Q : Type 0} (r : Result Q Fault) (a b : TopScope) → b ≡ a → OnOk r (b ≡ a)
same_left (Ok x) a b e = e
same_left (Err f) a b e = tt

-- what a call answers afterwards it answers of what was in scope before
pub seen_before : {B Q : Type 0} {old mid : Moment} (k : List ℕ → Top → Answer B) (told : Q → B) (r : Result Q Fault)
    → IsTopScope old.graph old.top → Passes old mid → mid.top ≡ old.top
    → Answers (k mid.graph.home (seen_at mid)) told r → Answers (k old.graph.home (seen_at old)) told r
seen_before {B} {Q} {old} {mid} k told r there p e h =
    subst (λ home. Answers (k home (seen_at old)) told r) p.home
    (subst (λ top. Answers (k mid.graph.home top) told r) (seen_kept {old = old} {new = mid} there p e) h)

-- the first part is refused
pub stops : {A B R Q : Type 0} {old new : Moment} {want : List ℕ → Top → Answer A} {reads : Moment → R → A}
    {have : Graph → R → Type 0} {told : Moment → Q → B} {got : Graph → Q → Type 0} {e : Fault}
    (k : List ℕ → Top → A → Answer B) → Elabs old want reads have new (Err e)
    → Elabs old (λ home top. want home top >>= k home top) told got new (Err e)
stops {A} {B} {R} {Q} {old} {new} {want} {reads} {have} {told} {got} {e} k h = record {
  infers = answers_stop (want old.graph.home (seen_at old)) (k old.graph.home (seen_at old)) (reads new) (told new) e
      h.infers;
  has = tt;
  goes = h.goes;
  left = tt;
}

-- the first part gives what the rest goes on with
pub goes_on : {A B R Q : Type 0} {old mid new : Moment} {want : List ℕ → Top → Answer A} {reads : Moment → R → A}
    {have : Graph → R → Type 0} {told : Moment → Q → B} {got : Graph → Q → Type 0} {x : R} {r : Result Q Fault}
    (k : List ℕ → Top → A → Answer B) → IsTopScope old.graph old.top → Elabs old want reads have mid (Ok x)
    → Elabs mid (λ home top. k home top (reads mid x)) told got new r
    → Elabs old (λ home top. want home top >>= k home top) told got new r
goes_on {A} {B} {R} {Q} {old} {mid} {new} {want} {reads} {have} {told} {got} {x} {r} k there h l = record {
  infers = answers_go (want old.graph.home (seen_at old)) (reads mid x) (k old.graph.home (seen_at old)) (told new) r
      h.infers
      (seen_before {old = old} {mid = mid} (λ home top. k home top (reads mid x)) (told new) r there h.goes h.left
      l.infers);
  has = l.has;
  goes = passes_then h.goes l.goes;
  left = left_then r old.top mid.top new.top l.left h.left;
}

-- what holds of an error holds where it is passed on
pub passed : {W R : Type 0} {old new : Moment} {want : List ℕ → Top → Answer W} {reads : Moment → R → W}
    {have : Graph → R → Type 0} (r : Result R Fault) (e : Fault) → IsErrAnd r (λ f. f ≡ e)
    → Elabs old want reads have new (Err e) → Elabs old want reads have new r
passed {W} {R} {old} {new} {want} {reads} {have} (Ok x) e h k = absurd h
passed {W} {R} {old} {new} {want} {reads} {have} (Err f) e h k =
    subst (λ (z : Fault). Elabs old want reads have new (Err z)) (sym h) k

-- want of memory
pub memory : {W R : Type 0} {old new : Moment} {want : List ℕ → Top → Answer W} {reads : Moment → R → W}
    {have : Graph → R → Type 0} → Passes old new → Elabs old want reads have new (Err fault.NoMemory)
memory p = record { infers = tt; has = tt; goes = p; left = tt }
