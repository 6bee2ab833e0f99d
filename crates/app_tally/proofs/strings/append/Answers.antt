use Rattle.std.proofs.Common.{◌≡◌, length, rules}
use Rattle.bale_types.proofs.Moves.{on_err_any}
use Rattle.app_tally.proofs.Kept.{store_kept, strings_kept, store_more, strings_more}
use Rattle.app_tally.proofs.strings.append.Goals as goal

pub returns-in_err-push-clause-store : goal.returns-in_err-push-clause-store
returns-in_err-push-clause-store c = store_kept c.args.bytes.now.items c.args.string.now _ c.args.spans.now.items _ c.in_ok-extend_from_slice.ensures.items c.in_err-push.ensures.items c.requires.store

pub returns-in_err-push-clause-refused : goal.returns-in_err-push-clause-refused
returns-in_err-push-clause-refused c =
    on_err_any c.from_residual-in_err-push.result
    (strings_kept c.args.bytes.now.items c.args.string.now _ c.args.spans.now.items _ c.in_ok-extend_from_slice.ensures.items c.in_err-push.ensures.items c.requires.store)

pub returns-clause-store : goal.returns-clause-store
returns-clause-store c =
    let start : c.len-start.result ≡ length c.args.bytes.now.items = search rules in
    store_more c.args.bytes.now.items c.args.string.now _ c.args.spans.now.items _ _ c.in_ok-extend_from_slice.ensures.items c.in_ok-push.ensures.items start (search rules) c.requires.store c.is_letter.ensures

pub returns-clause-pushed : goal.returns-clause-pushed
returns-clause-pushed c =
    let start : c.len-start.result ≡ length c.args.bytes.now.items = search rules in
    strings_more c.args.bytes.now.items c.args.string.now _ c.args.spans.now.items _ _ c.in_ok-extend_from_slice.ensures.items c.in_ok-push.ensures.items start (search rules) c.requires.store
