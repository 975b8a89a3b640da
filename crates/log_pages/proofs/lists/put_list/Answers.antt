use Rattle.log_pages.proofs.Listing.{begun, one_more, whole_list}
use Rattle.log_pages.proofs.lists.put_list.Goals as goal

pub loop-i-init : goal.loop-i-init
loop-i-init c = let a = c.args in begun a.marks.now.row a.count a.bytes.now

pub loop-i-preserved : goal.loop-i-preserved
loop-i-preserved c =
    let z = c in
    one_more c.loop-i.invariant c.loop-i-test.true z.requires.1
    (rw (c.number_told.ensures.0, c.index_told.ensures.0, c.byte_told.ensures.0) at c.put_descriptor.ensures)

pub returns : goal.returns
returns c = whole_list c.loop-i.invariant c.loop-i-test.false c.put_descriptor-2.ensures
