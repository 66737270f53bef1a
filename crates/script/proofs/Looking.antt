-- What the fields that look up a name answer, once their values are read: what is found is live, and so it has a number; and there is one
-- answer.
use Rattle.std.proofs.Common.{◌≡◌, ℕ, true, List, [], ◌∷◌, Some, None, Option, Ok, Result, sym, refl, ap, ◌∙◌, subst}
use Rattle.result.specs.declared.refusal.Refusal.{Refusal}
use Rattle.result.specs.Rows.{NoRow}
use Rattle.linked_list.proofs.Lists.{none_some, some_same}
use Rattle.records.specs.declared.handles.OpPtr.{OpPtr}
use Rattle.records.specs.declared.operation.Operation.{Operation}
use Rattle.records.specs.declared.ir_node.IRNode.TheVariants as node
use Rattle.records.specs.Children.{is_live}
use Rattle.records.specs.Models.{Model, operation_at}
use Rattle.records.specs.Views.{part}
use Rattle.forest.proofs.Listed.{clash}
use Rattle.forest.proofs.Owning.{named_live}
use Rattle.symbol_table.specs.Lookups.{Nearest, above, itself, nowhere}
use Rattle.ir.specs.declared.context.Context.{Context}
use Rattle.ir.specs.Stores.{name_of, names, nodes}
use Rattle.ir.specs.Tables.{Found, FoundIn, FoundNearest, LookupCall, NearestLookupCall, Stands}
use Rattle.script.specs.declared.node.Node.{Node}
use Rattle.script.specs.declared.node.Close.{Close}
use Rattle.script.specs.declared.state.State.{State}
use Rattle.script.specs.Linkings.{edit_rows, rows_of}
use Rattle.script.specs.Listed.{ToldAs}
use Rattle.script.specs.Lookups.{LookedUp, Tells}
use Rattle.script.specs.Prints.{done}
use Rattle.script.specs.Runs.{Answers}
use Rattle.script.specs.Walks.{HaveNumbers}
use Rattle.script.proofs.Shown.{number_of_live, one_numbers}

-- what stands in a table is live, since it has a name
standing_live : (s : Context) (t op : OpPtr) (bytes : List ℕ) → Stands s t bytes op → is_live (nodes s) (node.Operation op) ≡ true
standing_live s t op bytes h = with_operation (operation_at (nodes s) op) refl
  where
    with_operation : (x : Option Operation) → operation_at (nodes s) op ≡ x → is_live (nodes s) (node.Operation op) ≡ true
    with_operation None q = absurd (none_some (sym (ap (part (name_of (names s))) q) ∙ h.name))
    with_operation (Some o) q = named_live (nodes s).operations op.handle o q

-- what a lookup found is shown with its number
tells : (s : State) (t : OpPtr) (bytes : List ℕ) (x : Option OpPtr) (shown : List Node) (c : Close) → Found s.context t bytes x → ToldAs s x shown c → Tells s x shown c
tells s t bytes None shown c f h = h
tells s t bytes (Some op) shown c f h =
    (subst (HaveNumbers s (node.Operation op ∷ [])) (sym h.0) (number_of_live s (node.Operation op) (standing_live s.context t op bytes f.stands), tt), h.1)

tells_in : (s : State) (t : Option OpPtr) (bytes : List ℕ) (x : Option OpPtr) (shown : List Node) (c : Close) → FoundIn s.context t bytes x → ToldAs s x shown c → Tells s x shown c
tells_in s None bytes x shown c f h = subst (λ (o : Option OpPtr). Tells s o shown c) (sym f) (subst (λ (o : Option OpPtr). ToldAs s o shown c) f h)
tells_in s (Some t) bytes x shown c f h = tells s t bytes x shown c f h

-- a lookup that is not refused is done
looked_up : (bad : Type 0) (named : Option OpPtr) (op : OpPtr) (rows : OpPtr → List (Refusal × Type 0)) (call : OpPtr → Result (Option OpPtr) Refusal → Type 0) (s : State) (x : Option OpPtr) (shown : List Node) (c : Close)
    → (bad → ⊥) → named ≡ Some op → NoRow (rows op) → call op (Ok x) → Tells s x shown c → Answers (edit_rows bad named rows) (LookedUp named call s) s (done shown c) s
looked_up bad named op rows call s x shown c good is none answers tells = (
  (good, ((λ nothing. none_some (sym nothing ∙ is)), subst (λ p. NoRow (rows_of p rows)) (sym is) none)),
  record {
    op = op;
    names = is;
    found = x;
    answers = answers;
    tells = tells;
    kept = refl;
  },
)

pub lookup_done : (bad : Type 0) (named : Option OpPtr) (t : OpPtr) (bytes : List ℕ) (rows : OpPtr → List (Refusal × Type 0)) (s : State) (x : Option OpPtr) (shown : List Node) (c : Close)
    → (bad → ⊥) → named ≡ Some t → NoRow (rows t) → LookupCall s.context t bytes (Ok x) → ToldAs s x shown c → Answers (edit_rows bad named rows) (LookedUp named (λ o. LookupCall s.context o bytes) s) s (done shown c) s
lookup_done bad named t bytes rows s x shown c good is none h told =
    looked_up bad named t rows (λ o. LookupCall s.context o bytes) s x shown c good is none h (tells s t bytes x shown c h.1 told)

pub nearest_lookup_done : (bad : Type 0) (named : Option OpPtr) (op : OpPtr) (bytes : List ℕ) (rows : OpPtr → List (Refusal × Type 0)) (s : State) (x : Option OpPtr) (shown : List Node) (c : Close)
    → (bad → ⊥) → named ≡ Some op → NoRow (rows op) → NearestLookupCall s.context op bytes (Ok x) → ToldAs s x shown c → Answers (edit_rows bad named rows) (LookedUp named (λ o. NearestLookupCall s.context o bytes) s) s (done shown c) s
nearest_lookup_done bad named op bytes rows s x shown c good is none h told =
    looked_up bad named op rows (λ o. NearestLookupCall s.context o bytes) s x shown c good is none h (tells_in s h.1.table bytes x shown c h.1.found told)

-- a lookup finds one operation or none
one_found : (s : Context) (t : OpPtr) (bytes : List ℕ) (x y : Option OpPtr) → Found s t bytes x → Found s t bytes y → x ≡ y
one_found s t bytes None None h k = refl
one_found s t bytes None (Some b) h k = absurd (h b k.stands)
one_found s t bytes (Some a) None h k = absurd (k a h.stands)
one_found s t bytes (Some a) (Some b) h k = ap Some (k.alone a h.stands)

one_found_in : (s : Context) (t : Option OpPtr) (bytes : List ℕ) (x y : Option OpPtr) → FoundIn s t bytes x → FoundIn s t bytes y → x ≡ y
one_found_in s None bytes x y h k = h ∙ sym k
one_found_in s (Some t) bytes x y h k = one_found s t bytes x y h k

-- one table is nearest, or none
one_nearest : (m : Model) (op : OpPtr) (x y : Option OpPtr) → Nearest m op x → Nearest m op y → x ≡ y
one_nearest m op x y (itself i e) (itself j f) = e ∙ sym f
one_nearest m op x y (itself i e) (above v j f o) = absurd (clash (sym i ∙ j))
one_nearest m op x y (itself i e) (nowhere j f o) = absurd (clash (sym i ∙ j))
one_nearest m op x y (above u i e n) (itself j f) = absurd (clash (sym j ∙ i))
one_nearest m op x y (above u i e n) (above v j f o) =
    one_nearest m u x y n (subst (λ (p : OpPtr). Nearest m p y) (some_same (sym f ∙ e)) o)
one_nearest m op x y (above u i e n) (nowhere j f o) = absurd (none_some (sym f ∙ e))
one_nearest m op x y (nowhere i e n) (itself j f) = absurd (clash (sym j ∙ i))
one_nearest m op x y (nowhere i e n) (above v j f o) = absurd (none_some (sym e ∙ f))
one_nearest m op x y (nowhere i e n) (nowhere j f o) = n ∙ sym o

one_found_nearest : (s : Context) (op : OpPtr) (bytes : List ℕ) (x y : Option OpPtr) → FoundNearest s op bytes x → FoundNearest s op bytes y → x ≡ y
one_found_nearest s op bytes x y h k =
    one_found_in s k.table bytes x y (subst (λ (t : Option OpPtr). FoundIn s t bytes x) (one_nearest (nodes s) op h.table k.table h.nearest k.nearest) h.found) k.found

pub one_lookup : (s : Context) (bytes : List ℕ) (t : OpPtr) (x y : Option OpPtr) → LookupCall s t bytes (Ok x) → LookupCall s t bytes (Ok y) → x ≡ y
one_lookup s bytes t x y h k = one_found s t bytes x y h.1 k.1

pub one_nearest_lookup : (s : Context) (bytes : List ℕ) (op : OpPtr) (x y : Option OpPtr) → NearestLookupCall s op bytes (Ok x) → NearestLookupCall s op bytes (Ok y) → x ≡ y
one_nearest_lookup s bytes op x y h k = one_found_nearest s op bytes x y h.1 k.1

-- what was found is told in one way
pub one_telling : (s : State) (x : Option OpPtr) (ns ms : List Node) (c d : Close) → Tells s x ns c → Tells s x ms d → (ns ≡ ms) × (c ≡ d)
one_telling s None ns ms c d h k = (h.0 ∙ sym k.0, h.1 ∙ sym k.1)
one_telling s (Some op) ns ms c d h k = (one_numbers s (node.Operation op ∷ []) ns ms h.0 k.0, h.1 ∙ sym k.1)
