-- Names as bytes in the bodies of tables, from names as numbers. Assumes nothing.
use Rattle.std.proofs.Common.{◌≡◌, ℕ, true, List, [], length, Some, None, Option, sym, refl, ap, ◌∙◌, subst}
use Rattle.std.proofs.lemmas.List.{get_or_default}
use Rattle.records.specs.declared.handles.OpPtr.{OpPtr}
use Rattle.records.specs.declared.operation.Operation.{Operation}
use Rattle.records.specs.Models.{Model, operation_at}
use Rattle.records.specs.Nodes.{is_table}
use Rattle.records.specs.Views.{part}
use Rattle.names.specs.Places.{Absent, Stands as At}
use Rattle.names.proofs.Holding.{once}
use Rattle.symbol_table.specs.Bodies.{Stands as StandsBy, name_of as number_of}
use Rattle.symbol_table.specs.Lookups.{LooksUp, Nearest, above, itself, nowhere}
use Rattle.symbol_table.proofs.Findings.{some_same}
use Rattle.symbol_table.proofs.Following.{none_some}
use Rattle.symbol_table.proofs.Owned.{has_one_body, one_of_a_name as one_of_a_number}
use Rattle.ir.specs.declared.context.Context.{Context}
use Rattle.ir.specs.Stores.{name_at, name_of, names, nodes}
use Rattle.ir.specs.Tables.{Found, Stands, bytes_of}
use Rattle.ir.proofs.Numbering.{numbers_held}

-- the bytes of a name, at its number
pub record Numbered (s : Context) (op : OpPtr) (bytes : List ℕ) : Type 0 where
  pub number : ℕ
  pub named : number_of (nodes s) op ≡ Some number
  pub at : At (names s) number bytes

module _ (s : Context) where
  pub numbered : (op : OpPtr) (bytes : List ℕ) → bytes_of s op ≡ Some bytes → Numbered s op bytes
  numbered op bytes e = with_operation (operation_at (nodes s) op) refl
    where
      with_number : (o : Operation) → operation_at (nodes s) op ≡ Some o → (i : Option ℕ) → o.name ≡ i → Numbered s op bytes
      with_number o q None f = absurd (none_some (sym (ap (part (name_of (names s))) q ∙ ap (name_at (names s)) f) ∙ e))
      with_number o q (Some i) f =
          let lt = (numbers_held (nodes s) (length (names s)) s.numbers).number op o i q f in
          record {
            number = i;
            named = ap (part (λ (x : Operation). x.name)) q ∙ f;
            at = record {
              within = lt;
              is = λ d. get_or_default (names s) i d [] lt ∙ some_same (sym (ap (part (name_of (names s))) q ∙ ap (name_at (names s)) f) ∙ e);
            };
          }

      with_operation : (x : Option Operation) → operation_at (nodes s) op ≡ x → Numbered s op bytes
      with_operation None q = absurd (none_some (sym (ap (part (name_of (names s))) q) ∙ e))
      with_operation (Some o) q = with_number o q o.name refl

  pub bytes_are : (op : OpPtr) (bytes : List ℕ) (i : ℕ) → number_of (nodes s) op ≡ Some i → At (names s) i bytes → bytes_of s op ≡ Some bytes
  bytes_are op bytes i e a = with_operation (operation_at (nodes s) op) refl
    where
      with_operation : (x : Option Operation) → operation_at (nodes s) op ≡ x → bytes_of s op ≡ Some bytes
      with_operation None q = absurd (none_some (sym (ap (part (λ (x : Operation). x.name)) q) ∙ e))
      with_operation (Some o) q =
          let f : o.name ≡ Some i = sym (ap (part (λ (x : Operation). x.name)) q) ∙ e in
          ap (part (name_of (names s))) q ∙ ap (name_at (names s)) f ∙ ap Some (a.is [])

  module _ (t : OpPtr) (bytes : List ℕ) (i : ℕ) (a : At (names s) i bytes) where
    -- what stands in a body under the bytes stands there under their number
    pub by_number : (op : OpPtr) → Stands s t bytes op → StandsBy (nodes s) t i op
    by_number op x =
        let b = has_one_body s.tables t x.table in
        let n = numbered op bytes x.name in
        b.stands i op (x.child ∙ ap Some (some_same (sym x.is_body ∙ b.is_body))) (n.named ∙ ap Some ((once s.names).one n.number i bytes n.at a))

    pub by_bytes : (op : OpPtr) → StandsBy (nodes s) t i op → Stands s t bytes op
    by_bytes op x =
        let b = has_one_body s.tables t x.table in
        let c = b.child i op x in
        record { table = x.table; body = b.body; is_body = b.is_body; child = c.0; name = bytes_are op bytes i c.1 a }

    -- what is found under the number is found under the bytes
    pub found : (r : Option OpPtr) → LooksUp (nodes s) t i r → Found s t bytes r
    found (Some op) l = record { stands = by_bytes op l.stands; alone = λ other x. l.alone other (by_number other x) }
    found None l = λ op x. l op (by_number op x)

  -- a name that is not held is found nowhere
  pub nowhere_found : (t : OpPtr) (bytes : List ℕ) → Absent (names s) bytes → Found s t bytes None
  nowhere_found t bytes out = λ op x. let n = numbered op bytes x.name in out n.number n.at

  pub one_of_a_name : (t : OpPtr) (bytes : List ℕ) (op other : OpPtr) → Stands s t bytes op → Stands s t bytes other → op ≡ other
  one_of_a_name t bytes op other x y =
      let n = numbered op bytes x.name in
      one_of_a_number s.tables t n.number op other (by_number t bytes n.number n.at op x) (by_number t bytes n.number n.at other y)

-- what is nearest is a table
pub nearest_table : (m : Model) (op : OpPtr) (x : Option OpPtr) (t : OpPtr) → Nearest m op x → x ≡ Some t → is_table m t ≡ true
nearest_table m op x t (itself i e) q = subst (λ (p : OpPtr). is_table m p ≡ true) (some_same (sym e ∙ q)) i
nearest_table m op x t (above up i e n) q = nearest_table m up x t n q
nearest_table m op x t (nowhere i e f) q = absurd (none_some (sym f ∙ q))
