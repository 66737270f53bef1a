use Rattle.std.proofs.Common.{List, rules, ◌≤◌, length, sym, subst, ◌∙◌, arith}
use Rattle.records.specs.declared.handles.OpPtr.{OpPtr}
use Rattle.records.specs.declared.handles.RegionPtr.{RegionPtr}
use Rattle.records.specs.declared.ir_node.IRNode.TheVariants as node
use Rattle.records.specs.Models.{tables}
use Rattle.records.specs.Nodes.{regions_of}
use Rattle.records.specs.Padding.{no_region}
use Rattle.erasers.specs.Erasings.{Open}
use Rattle.erasers.proofs.Frees.{block_op, freed_block, freed_op, freed_region, region_block}
use Rattle.erasers.proofs.Takes.{Taken, taken_block, taken_block_open, taken_op, taken_op_open}
use Rattle.erasers.proofs.Turns.{again, again_op, begin, OpTurn, begin_op, block_alone, blocks_sound, child_live, child_ready, ended_count, finish, finish_op, first_block, first_op, item_at, lists_cut, lists_left, lists_now, lists_of, live_named, no_block_left, no_op_left, op_alone, ops_sound, region_live, region_ready, take_more}
use Rattle.erasers.proofs.erasing.+erase.Goals as goal

-- A block and its operations.

pub erase_block-children-init : goal.erase_block-children-init
erase_block-children-init t c = begin (tables c.args.records.now) (node.BasicBlock c.args.block) c.requires.node

pub erase_block-get_head-requires : goal.erase_block-get_head-requires
erase_block-get_head-requires t c = c.children.invariant.live

pub erase_block-unlink-requires-clause-node : goal.erase_block-unlink-requires-clause-node
erase_block-unlink-requires-clause-node t c =
    let q = lists_of (tables c.args.records.now) c.requires.oplists c.requires.blocklists in
    first_op (tables c.children.records) c.args.block c.in-Some.op (lists_now c.children.invariant q) c.children.invariant.live (sym c.get_head.ensures ∙ c.in-Some.is)

pub erase_block-unlink-requires-clause-sound : goal.erase_block-unlink-requires-clause-sound
erase_block-unlink-requires-clause-sound t c =
    let q = lists_of (tables c.args.records.now) c.requires.oplists c.requires.blocklists in
    ops_sound (tables c.children.records) (lists_now c.children.invariant q)

-- the first operation is taken out
block-taken : (t : _) (c : goal.erase_block-After-erase_op-arg-1 t) → Taken (tables c.children.records) (tables c.unlink.new.ctx) (node.BasicBlock c.args.block) (node.Operation c.in-Some.op)
block-taken t c =
    let q = lists_of (tables c.args.records.now) c.requires.oplists c.requires.blocklists in
    taken_op (tables c.children.records) (tables c.unlink.new.ctx) c.args.block c.in-Some.op (lists_now c.children.invariant q) c.children.invariant.live (sym c.get_head.ensures ∙ c.in-Some.is) c.unlink.ensures.removes c.unlink.ensures.rest

block-opened : (t : _) (c : goal.erase_block-After-erase_op-arg-1 t) (A : List OpPtr) → Open (tables c.children.records) A → Open (tables c.unlink.new.ctx) A
block-opened t c =
    let q = lists_of (tables c.args.records.now) c.requires.oplists c.requires.blocklists in
    taken_op_open (tables c.children.records) (tables c.unlink.new.ctx) c.args.block c.in-Some.op (lists_now c.children.invariant q) c.children.invariant.live (sym c.get_head.ensures ∙ c.in-Some.is) c.unlink.ensures.removes c.unlink.ensures.rest

pub erase_block-erase_op-requires : goal.erase_block-erase_op-requires
erase_block-erase_op-requires t c =
    let q = lists_of (tables c.args.records.now) c.requires.oplists c.requires.blocklists in
    let w = c.children.invariant in
    let taken = block-taken t c in
    let opened = block-opened t c in
    let cut = lists_cut w q taken opened c.requires.ready in
    let h = taken.fewer in
    let k = w.count in (
      search rules,
      (child_live w q taken opened c.requires.ready, (ops_sound _ cut, (blocks_sound _ cut, child_ready w q taken opened c.requires.ready))),
    )

pub erase_block-children-smaller : goal.erase_block-children-smaller
erase_block-children-smaller t c = let h = (block-taken t c.before).fewer in let k = c.erase_op.ensures.fewer in omega (arith, h, k)

pub erase_block-children-preserved : goal.erase_block-children-preserved
erase_block-children-preserved t c =
    let q = lists_of (tables c.args.records.now) c.requires.oplists c.requires.blocklists in
    again c.children.invariant q (block-taken t c.before) (block-opened t c.before) c.requires.ready (tables c.erase_op.new.records) (block_op _ _) c.erase_op.ensures.erased c.erase_op.ensures.fewer

pub erase_block-free_block-requires : goal.erase_block-free_block-requires
erase_block-free_block-requires t c = c.children.invariant.live

pub erase_block-returns-clause-erased : goal.erase_block-returns-clause-erased
erase_block-returns-clause-erased t c =
    let s = tables c.args.records.now in
    let u = tables c.children.records in
    let w = c.children.invariant in
    finish w (tables c.free_block.new.self) c.free_block.ensures (no_op_left u c.args.block w.live (sym c.get_head.ensures ∙ c.in_default.is))
    (λ l k but e. freed_block s u l k c.args.block w.live (block_alone w c.requires.ready) but e)

pub erase_block-returns-clause-fewer : goal.erase_block-returns-clause-fewer
erase_block-returns-clause-fewer t c =
    let w = c.children.invariant in
    let h = ended_count (node.BasicBlock c.args.block) (tables c.children.records) (tables c.free_block.new.self) w.live c.free_block.ensures in
    omega (arith, h, w.count)

-- An operation and its regions.

pub erase_op-unwrap-regions-requires : goal.erase_op-unwrap-regions-requires
erase_op-unwrap-regions-requires t c = live_named c.args.records.now.operations c.args.op.handle c.get.result c.get.ensures c.requires.node

pub erase_op-children-init : goal.erase_op-children-init
erase_op-children-init t c =
    subst (λ (rs : List RegionPtr). OpTurn (tables c.args.records.now) (tables c.args.records.now) c.args.op rs 0) (sym c.as_slice-region-items.ensures.all)
    (begin_op (tables c.args.records.now) c.args.op c.unwrap-regions.result c.requires.node (sym c.get.ensures ∙ c.unwrap-regions.ensures))

pub erase_op-erase_region-requires : goal.erase_op-erase_region-requires
erase_op-erase_region-requires t c =
    let q = lists_of (tables c.args.records.now) c.requires.oplists c.requires.blocklists in
    let w = c.children.invariant in
    let is = item_at c.as_slice-region-items.result.now c.children.region-index no_region c.children-test.true in
    let left = lists_left w q c.requires.ready in
    let k = w.count in (
      search rules,
      (region_live w q c.requires.ready _ is, (ops_sound _ left, (blocks_sound _ left, region_ready w q c.requires.ready _ is))),
    )

pub erase_op-children-preserved : goal.erase_op-children-preserved
erase_op-children-preserved t c =
    let q = lists_of (tables c.args.records.now) c.requires.oplists c.requires.blocklists in
    let rs = c.as_slice-region-items.result.now in
    let i = c.children.region-index in
    again_op c.children.invariant q c.requires.ready _ (item_at rs i no_region c.children-test.true) (tables c.erase_region.new.records) c.erase_region.ensures.erased c.erase_region.ensures.fewer (take_more rs i no_region c.children-test.true)

pub erase_op-free_op-requires : goal.erase_op-free_op-requires
erase_op-free_op-requires t c = c.children.invariant.live

pub erase_op-returns-clause-erased : goal.erase_op-returns-clause-erased
erase_op-returns-clause-erased t c =
    let s = tables c.args.records.now in
    let u = tables c.children.records in
    let o = c.unwrap-regions.result in
    let w : OpTurn s u c.args.op (regions_of o) c.children.region-index = subst (λ (rs : List RegionPtr). OpTurn s u c.args.op rs c.children.region-index) c.as_slice-region-items.ensures.all c.children.invariant in
    finish_op o w (tables c.free_op.new.self) (sym c.get.ensures ∙ c.unwrap-regions.ensures)
    (subst (λ (rs : List RegionPtr). length rs ≤ c.children.region-index) c.as_slice-region-items.ensures.all c.children-test.false) c.free_op.ensures
    (λ l k but. freed_op s u l k c.args.op w.live (op_alone w c.requires.ready) but)

pub erase_op-returns-clause-fewer : goal.erase_op-returns-clause-fewer
erase_op-returns-clause-fewer t c =
    let w = c.children.invariant in
    let h = ended_count (node.Operation c.args.op) (tables c.children.records) (tables c.free_op.new.self) w.live c.free_op.ensures in
    omega (arith, h, w.count)

-- A region and its blocks.

pub erase_region-children-init : goal.erase_region-children-init
erase_region-children-init t c = begin (tables c.args.records.now) (node.Region c.args.region) c.requires.node

pub erase_region-get_head-requires : goal.erase_region-get_head-requires
erase_region-get_head-requires t c = c.children.invariant.live

pub erase_region-unlink-requires-clause-node : goal.erase_region-unlink-requires-clause-node
erase_region-unlink-requires-clause-node t c =
    let q = lists_of (tables c.args.records.now) c.requires.oplists c.requires.blocklists in
    first_block (tables c.children.records) c.args.region c.in-Some.block (lists_now c.children.invariant q) c.children.invariant.live (sym c.get_head.ensures ∙ c.in-Some.is)

pub erase_region-unlink-requires-clause-sound : goal.erase_region-unlink-requires-clause-sound
erase_region-unlink-requires-clause-sound t c =
    let q = lists_of (tables c.args.records.now) c.requires.oplists c.requires.blocklists in
    blocks_sound (tables c.children.records) (lists_now c.children.invariant q)

-- the first block is taken out
region-taken : (t : _) (c : goal.erase_region-After-erase_block-arg-1 t) → Taken (tables c.children.records) (tables c.unlink.new.ctx) (node.Region c.args.region) (node.BasicBlock c.in-Some.block)
region-taken t c =
    let q = lists_of (tables c.args.records.now) c.requires.oplists c.requires.blocklists in
    taken_block (tables c.children.records) (tables c.unlink.new.ctx) c.args.region c.in-Some.block (lists_now c.children.invariant q) c.children.invariant.live (sym c.get_head.ensures ∙ c.in-Some.is) c.unlink.ensures.removes c.unlink.ensures.rest

region-opened : (t : _) (c : goal.erase_region-After-erase_block-arg-1 t) (A : List OpPtr) → Open (tables c.children.records) A → Open (tables c.unlink.new.ctx) A
region-opened t c =
    let q = lists_of (tables c.args.records.now) c.requires.oplists c.requires.blocklists in
    taken_block_open (tables c.children.records) (tables c.unlink.new.ctx) c.args.region c.in-Some.block (lists_now c.children.invariant q) c.children.invariant.live (sym c.get_head.ensures ∙ c.in-Some.is) c.unlink.ensures.removes c.unlink.ensures.rest

pub erase_region-erase_block-requires : goal.erase_region-erase_block-requires
erase_region-erase_block-requires t c =
    let q = lists_of (tables c.args.records.now) c.requires.oplists c.requires.blocklists in
    let w = c.children.invariant in
    let taken = region-taken t c in
    let opened = region-opened t c in
    let cut = lists_cut w q taken opened c.requires.ready in
    let h = taken.fewer in
    let k = w.count in (
      search rules,
      (child_live w q taken opened c.requires.ready, (ops_sound _ cut, (blocks_sound _ cut, child_ready w q taken opened c.requires.ready))),
    )

pub erase_region-children-smaller : goal.erase_region-children-smaller
erase_region-children-smaller t c = let h = (region-taken t c.before).fewer in let k = c.erase_block.ensures.fewer in omega (arith, h, k)

pub erase_region-children-preserved : goal.erase_region-children-preserved
erase_region-children-preserved t c =
    let q = lists_of (tables c.args.records.now) c.requires.oplists c.requires.blocklists in
    again c.children.invariant q (region-taken t c.before) (region-opened t c.before) c.requires.ready (tables c.erase_block.new.records) (region_block _ _) c.erase_block.ensures.erased c.erase_block.ensures.fewer

pub erase_region-free_region-requires : goal.erase_region-free_region-requires
erase_region-free_region-requires t c = c.children.invariant.live

pub erase_region-returns-clause-erased : goal.erase_region-returns-clause-erased
erase_region-returns-clause-erased t c =
    let s = tables c.args.records.now in
    let u = tables c.children.records in
    let w = c.children.invariant in
    finish w (tables c.free_region.new.self) c.free_region.ensures (no_block_left u c.args.region w.live (sym c.get_head.ensures ∙ c.in_default.is))
    (λ l k but e. freed_region s u l k c.args.region w.live but e)

pub erase_region-returns-clause-fewer : goal.erase_region-returns-clause-fewer
erase_region-returns-clause-fewer t c =
    let w = c.children.invariant in
    let h = ended_count (node.Region c.args.region) (tables c.children.records) (tables c.free_region.new.self) w.live c.free_region.ensures in
    omega (arith, h, w.count)
