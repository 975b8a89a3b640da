-- What opening a block needs.
use Rattle.std.specs.Prelude.{ℕ, ◌+◌, ◌≤◌, true, ◌≡◌}
use Rattle.geometry.specs.Address.{is_domain_id}
use Rattle.geometry.specs.Shape.{within_limits}
use Rattle.geometry.specs.declared.shape.Config.{Config}
use Rattle.model.specs.declared.table.Domain.{Domain}

-- What opening a block for the domain d needs, whose record is given.
pub record MayOpenFor (c : Config) (owner : Domain) (d : ℕ) : Type 0 where
  pub limits : within_limits c ≡ true
  pub id : is_domain_id d ≡ true
  pub serial : owner.last + 1 ≤ 4294967295
