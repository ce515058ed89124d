-- `listing::call` meets its contract: after a "no" nothing is put, and else the list. Assumes nothing.
use Rattle.listing.proofs.Buffers.{left-map, left-room, put-list}
use Rattle.listing.proofs.call.Goals as goal

pub returns-in_err-map-clause-buffer_after : goal.returns-in_err-map-clause-buffer_after
returns-in_err-map-clause-buffer_after c = left-map c.args.rule c.args.mode c.args.map.now c.args.buffer.now c.in_err-map.field-0.0 c.in_err-map.ensures.value

pub returns-in_err-fits-clause-buffer_after : goal.returns-in_err-fits-clause-buffer_after
returns-in_err-fits-clause-buffer_after c = left-room c.args.rule c.args.mode c.args.map.now c.args.buffer.now c.in_ok-map.map.trailer c.in_ok-map.map.bytes.now c.in_ok-map.ensures.value c.in_ok-map.ensures.lent tt c.in_err-fits.field-0.0 c.in_err-fits.ensures

pub returns-clause-buffer_after : goal.returns-clause-buffer_after
returns-clause-buffer_after c = put-list c.args.rule c.args.mode c.args.map.now c.args.buffer.now c.in_ok-map.map.trailer c.in_ok-map.map.bytes.now c.in_ok-map.ensures.value c.in_ok-map.ensures.lent tt tt c.put_list.new.out c.in_ok-fits.ensures c.put_list.ensures.1
