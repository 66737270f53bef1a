-- What the end of a node does to the tables.
use Rattle.std.specs.Prelude.{List, [], ◌∷◌}
use Rattle.arena.specs.Shelves.{ended}
use Rattle.records.specs.declared.ir_node.IRNode.{IRNode}
use Rattle.records.specs.declared.ir_node.IRNode.TheVariants as node
use Rattle.records.specs.Models.{Model}
use Rattle.records.specs.Views.{but_block_links, but_op_links}

-- the tables after the record of a live node ended: its place is free under the next version, or retired after the last
abbrev pub without : IRNode → Model → Model
without (node.Operation op) m = record { operations = ended op.handle m.operations; blocks = m.blocks; regions = m.regions }
without (node.BasicBlock block) m = record { operations = m.operations; blocks = ended block.handle m.blocks; regions = m.regions }
without (node.Region region) m = record { operations = m.operations; blocks = m.blocks; regions = ended region.handle m.regions }

-- the tables after the records of these nodes ended, one after another
unfoldable pub without_all : List IRNode → Model → Model
without_all [] m = m
without_all (n ∷ ns) m = without_all ns (without n m)

-- all of the tables but the links
abbrev pub but_links : Model → Model
but_links m = but_block_links (but_op_links m)
