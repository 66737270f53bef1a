-- That `==` tells whether two names in tables are one.
use Rattle.std.specs.Prelude.{◌≡◌, ℕ, Bool, ◌&&◌, ◌==◌, Decides}
use Rattle.std.proofs.Common.{ap, ◌∙◌}
use Rattle.std.proofs.lemmas.Bool.Decides.{Decides-and, Decides-eqb, Decides-like}
use Rattle.records.specs.Writes.{op_decides}
use Rattle.records.specs.declared.handles.OpPtr.{OpPtr}
use Rattle.mappings.specs.declared.name_in.NameIn.{NameIn}

-- a name, by its number, in a table
abbrev pub name_in : OpPtr → ℕ → NameIn
name_in table name = record { table = table; name = name }

-- `==` of two names in tables, as it is derived: the places, the versions and the numbers are equal
abbrev pub equal : NameIn → NameIn → Bool
equal a b = ((a.table.handle.place == b.table.handle.place) && (a.table.handle.version == b.table.handle.version)) && (a.name == b.name)

-- a name in a table is the table and the number
pub same_name : (a b : NameIn) → a.table ≡ b.table → a.name ≡ b.name → a ≡ b
same_name a b p q = ap (λ (t : OpPtr). name_in t a.name) p ∙ ap (name_in b.table) q

-- `==` tells whether two names in tables are one, which is what a map asks of its keys
pub told : (a b : NameIn) → Decides (equal a b) (a ≡ b)
told a b =
    Decides-like (equal a b)
    (λ e. same_name a b e.0 e.1)
    (λ e. (ap (λ (k : NameIn). k.table) e, ap (λ (k : NameIn). k.name) e))
    (Decides-and _ (a.name == b.name) (op_decides a.table b.table) (Decides-eqb a.name b.name))
