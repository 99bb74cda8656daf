-- A graph with more nodes keeps what ids stand for.
use Rattle.std.proofs.Common.{◌≡◌, ℕ, refl, sym, ap, ◌∙◌, subst, [], ◌++◌, length, take}
use Rattle.std.specs.Prelude.{Result, Ok, Err, IfOk, OnErr}
use Rattle.std.proofs.lemmas.List.{append_assoc, append-nil}
use Rattle.cm_base.specs.declared.fault.NoMemory.{NoMemory}
use Rattle.semantic_objects.specs.Environments.{Env, Signature, Functor, Top}
use Rattle.sml_modules.specs.declared.id.EnvId.{EnvId}
use Rattle.sml_modules.specs.declared.id.SigId.{SigId}
use Rattle.sml_modules.specs.declared.id.FunId.{FunId}
use Rattle.sml_modules.specs.declared.id.TopId.{TopId}
use Rattle.sml_modules.specs.Items.{Item, at, as_env, as_signature, as_functor, as_top, IsEnv, IsSignature, IsFunctor, IsTop}
use Rattle.sml_modules.specs.Graphs.{Graph, Keeps, GivesEnv, GivesSignature, GivesFunctor, GivesTop}
use Rattle.sml_modules.specs.Adding.{Extends, Adds, cut}
use Rattle.sml_modules.proofs.Unfolding.{Never, at_more, take_front}

-- .. in terms of the items of the graphs
same_at : (Is : Item → Type 0) → Never Is → (old new : Graph) → Extends old new → (p : ℕ) → Is (at old.items p)
    → at new.items p ≡ at old.items p
same_at Is none old new e p h = ap (λ z. at z p) e.items ∙ at_more Is none old.items e.more p h

still_at : (Is : Item → Type 0) → Never Is → (old new : Graph) → Extends old new → (p : ℕ) → Is (at old.items p)
    → Is (at new.items p)
still_at Is none old new e p h = subst Is (sym (same_at Is none old new e p h)) h

pub keeps : (old new : Graph) → Extends old new → Keeps old new
keeps old new e = record {
  has_env = λ id h. still_at IsEnv (λ k. k) old new e id.place h;
  env = λ id h. ap as_env (same_at IsEnv (λ k. k) old new e id.place h);
  has_signature = λ id h. still_at IsSignature (λ k. k) old new e id.place h;
  signature = λ id h. ap as_signature (same_at IsSignature (λ k. k) old new e id.place h);
  has_functor = λ id h. still_at IsFunctor (λ k. k) old new e id.place h;
  functor = λ id h. ap as_functor (same_at IsFunctor (λ k. k) old new e id.place h);
  has_top = λ id h. still_at IsTop (λ k. k) old new e id.place h;
  top = λ id h. ap as_top (same_at IsTop (λ k. k) old new e id.place h);
}

pub extends_self : (g : Graph) → Extends g g
extends_self g = record { more = []; items = sym (append-nil g.items); home = refl; made = refl }

pub extends_then : (a b c : Graph) → Extends a b → Extends b c → Extends a c
extends_then a b c h k = record {
  more = h.more ++ k.more;
  items = k.items ∙ ap (λ z. z ++ k.more) h.items ∙ append_assoc a.items h.more k.more;
  home = k.home ∙ h.home;
  made = k.made ∙ h.made;
}

-- an id for one item more
pub gives_env : (old mid new : Graph) (env : Env) (id : EnvId) → Extends old mid
    → Adds mid new (Item.EnvItem env) id.place → GivesEnv old new env id
gives_env old mid new env id e a =
    let all = extends_then old mid new e a.extends in record {
      there = subst IsEnv (sym a.stands) tt;
      stands = ap as_env a.stands;
      keeps = keeps old new all;
      home = all.home;
      made = all.made;
    }

pub gives_signature : (old new : Graph) (sig : Signature) (id : SigId)
    → Adds old new (Item.SignatureItem sig) id.place → GivesSignature old new sig id
gives_signature old new sig id a = record {
  there = subst IsSignature (sym a.stands) tt;
  stands = ap as_signature a.stands;
  keeps = keeps old new a.extends;
  home = a.extends.home;
  made = a.extends.made;
}

pub gives_functor : (old new : Graph) (fun : Functor) (id : FunId)
    → Adds old new (Item.FunctorItem fun) id.place → GivesFunctor old new fun id
gives_functor old new fun id a = record {
  there = subst IsFunctor (sym a.stands) tt;
  stands = ap as_functor a.stands;
  keeps = keeps old new a.extends;
  home = a.extends.home;
  made = a.extends.made;
}

pub gives_top : (old mid new : Graph) (top : Top) (id : TopId) → Extends old mid
    → Adds mid new (Item.TopItem top) id.place → GivesTop old new top id
gives_top old mid new top id e a =
    let all = extends_then old mid new e a.extends in record {
      there = subst IsTop (sym a.stands) tt;
      stands = ap as_top a.stands;
      keeps = keeps old new all;
      home = all.home;
      made = all.made;
    }

graph_same : (g h : Graph) → g.items ≡ h.items → g.home ≡ h.home → g.made ≡ h.made → g ≡ h
graph_same g h i j k = λ n. record { items = i n; home = j n; made = k n }

-- nodes that were added are taken away again
pub cut_back : (old new : Graph) (n : ℕ) → Extends old new → n ≡ length old.items → cut n new ≡ old
cut_back old new n e h = graph_same _ _
    (ap (take n) e.items ∙ take_front n old.items e.more h) e.home e.made

-- .. of what a call answers
pub gives_ok : (old new : Graph) (env env' : Env) (r : Result EnvId NoMemory)
    → IfOk r (λ id. Adds old new (Item.EnvItem env) id.place) → env ≡ env' → IfOk r (GivesEnv old new env')
gives_ok old new env env' (Ok id) h e =
    gives_env old old new env' id (extends_self old) (subst (λ z. Adds old new (Item.EnvItem z) id.place) e h)
gives_ok old new env env' (Err fault) h e = tt

pub gives_top_ok : (old new : Graph) (top top' : Top) (r : Result TopId NoMemory)
    → IfOk r (λ id. Adds old new (Item.TopItem top) id.place) → top ≡ top' → IfOk r (GivesTop old new top')
gives_top_ok old new top top' (Ok id) h e =
    gives_top old old new top' id (extends_self old) (subst (λ z. Adds old new (Item.TopItem z) id.place) e h)
gives_top_ok old new top top' (Err fault) h e = tt

-- a node after others
pub adds_after : (a b c : Graph) (item item' : Item) (p : ℕ) → Extends a b → Adds b c item p → item ≡ item'
    → Adds a c item' p
adds_after a b c item item' p e h i = record { stands = h.stands ∙ i; extends = extends_then a b c e h.extends }

pub extends_same : (a b c : Graph) → Extends a b → c ≡ b → Extends a c
extends_same a b c e h = subst (Extends a) (sym h) e

pub adds_ok : (a b c : Graph) (env env' : Env) (r : Result EnvId NoMemory) → Extends a b
    → IfOk r (λ id. Adds b c (Item.EnvItem env) id.place) → env ≡ env'
    → IfOk r (λ id. Adds a c (Item.EnvItem env') id.place)
adds_ok a b c env env' (Ok id) e h i =
    adds_after a b c (Item.EnvItem env) (Item.EnvItem env') id.place e h (ap Item.EnvItem i)
adds_ok a b c env env' (Err fault) e h i = tt

pub extends_err : (a b c : Graph) (r : Result EnvId NoMemory) → Extends a b → OnErr r (c ≡ b) → OnErr r (Extends a c)
extends_err a b c (Ok id) e h = tt
extends_err a b c (Err fault) e h = extends_same a b c e h

pub on_err : {A E P : Type 0} (r : Result A E) → P → OnErr r P
on_err (Ok x) h = tt
on_err (Err e) h = h
