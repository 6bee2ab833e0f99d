use Rattle.std.proofs.Common.{◌≡◌, rules, ap, sym, subst, ◌∙◌, Ok}
use Rattle.std.specs.List.{All}
use Rattle.bale_items.specs.declared.item.Entry.{Entry}
use Rattle.item_buffer.specs.Contents.{as_shipped}
use Rattle.port_bank.specs.Logs.{Logs}
use Rattle.port_bank.specs.Relay.{RelayLaw}
use Rattle.port_bank.proofs.Frames.{outs_elsewhere}
use Rattle.exstack.specs.Links.{no_tag}
use Rattle.exstack.proofs.OneHop.{plain_law}
use Rattle.exstack.proofs.out_link.OutLink.post.Goals as goal

pub post-requires : goal.post-requires
post-requires g c =
    let same : c.set_last.new.self.untaken ≡ c.self.inside.parcel.untaken = ap (λ p. p.untaken) c.set_last.ensures ∙ ap (λ p. p.untaken) c.set_epoch.ensures in (
      search rules,
      record {
        link = c.requires.link;
        starts_here = c.requires.starts_here;
        fresh = search rules;
        epoch = search rules;
        law = plain_law _ _ _ _ _ (as_shipped c.set_last.new.self) c.requires.grid c.requires.one_hop c.requires.link (subst (All (λ (e : Entry). e.tag ≡ no_tag)) (sym same) c.self.invariant.1) c.requires.law;
      },
    )

pub returns-in-Ok-Sent-clause-law : goal.returns-in-Ok-Sent-clause-law
returns-in-Ok-Sent-clause-law g c =
    let same : c.set_last.new.self.untaken ≡ c.self.inside.parcel.untaken = ap (λ p. p.untaken) c.set_last.ensures ∙ ap (λ p. p.untaken) c.set_epoch.ensures in
    let law = plain_law _ _ _ _ _ (as_shipped c.set_last.new.self) c.requires.grid c.requires.one_hop c.requires.link (subst (All (λ (e : Entry). e.tag ≡ no_tag)) (sym same) c.self.invariant.1) c.requires.law in
    subst (λ (logs : Logs). RelayLaw (g.P.Port.view c.args.port.now).dims (g.P.Port.view c.args.port.now).rank logs (g.P.Port.view c.args.port.now).got) (sym (c.post.ensures.posts.sent (c.in-Ok-Sent.is ∙ ap Ok c.in-Ok-Sent.field-0-is))) law

pub returns-in-Ok-Sent-clause-elsewhere : goal.returns-in-Ok-Sent-clause-elsewhere
returns-in-Ok-Sent-clause-elsewhere g c = outs_elsewhere c.post.ensures.posts

pub returns-in-Ok-NoRoom-clause-elsewhere : goal.returns-in-Ok-NoRoom-clause-elsewhere
returns-in-Ok-NoRoom-clause-elsewhere g c = outs_elsewhere c.post.ensures.posts
