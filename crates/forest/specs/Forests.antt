-- What the store of nodes means.
use Rattle.forest.specs.declared.forest.Forest.{Forest}
use Rattle.records.specs.Models.{Model, tables}

-- the tables of its records
abbrev pub model : Forest → Model
model f = tables f.records
