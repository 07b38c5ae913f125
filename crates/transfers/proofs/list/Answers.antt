-- `transfers::list` meets its contract.
use Rattle.transfers.proofs.Listing.{walk_rows, list-accepted, list-refused}
use Rattle.transfers.proofs.list.Goals as goal

pub walk-requires : goal.walk-requires
walk-requires c =
    let a = c.args in
    let j = c.judge_capture in
    walk_rows a.state a.elapsed.now a.levels.now a.array.now a.entries.now j.result j.ensures _ c.in-Ok.is

pub returns-in-Ok : goal.returns-in-Ok
returns-in-Ok c =
    let j = c.judge_capture in
    let a = c.args in
    list-accepted a.state a.elapsed.now a.levels.now a.array.now a.entries.now j.result j.ensures _ _ _ _ c.in-Ok.is c.walk.ensures

pub returns-in-Err : goal.returns-in-Err
returns-in-Err c =
    let j = c.judge_capture in
    let a = c.args in
    list-refused a.state a.elapsed.now a.levels.now a.array.now a.entries.now j.result j.ensures _ c.in-Err.is
