-- Each field by its function; both counts are few blocks.
use Rattle.domains.proofs.Reservations.{few_both}
use Rattle.domains.proofs.reserving.changed_domain.Goals as goal

pub new_block_count-reserved-requires : goal.new_block_count-reserved-requires
new_block_count-reserved-requires c = let z = c in let a = z.args in
    record { config_value = z.requires.config_value; n_bound = (few_both a.summary.config a.guarantee a.quota z.requires.config_value z.requires.quota_value).0 }

pub new_block_count-quota-requires : goal.new_block_count-quota-requires
new_block_count-quota-requires c = let z = c in let a = z.args in
    record { config_value = z.requires.config_value; n_bound = (few_both a.summary.config a.guarantee a.quota z.requires.config_value z.requires.quota_value).1 }
