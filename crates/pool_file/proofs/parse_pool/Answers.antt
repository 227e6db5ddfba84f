-- `parse_pool`: what the file's own edition answers.
use Rattle.std.proofs.Common.{sym, ap, ◌∙◌, subst, Bool, Option}
use Rattle.model.specs.PoolFile.{PoolFile}
use Rattle.pool_file.specs.Parsing.{parse_in, PoolOfIs}
use Rattle.pool_file.proofs.Editions.{parse_in_lem}
use Rattle.pool_file.proofs.parse_pool.Goals as goal

pub returns : goal.returns
returns c =
    subst (λ (f : Option PoolFile). PoolOfIs f c.parse_in.new.directions c.parse_in.new.pool c.parse_in.result)
    (ap (λ (b : Bool). parse_in b c.args.file.now) c.opens_second.ensures ∙ sym (parse_in_lem c.args.file.now))
    c.parse_in.ensures
