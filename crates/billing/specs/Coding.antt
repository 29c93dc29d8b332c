-- How accounts are written as bytes.
use Rattle.std.specs.Prelude.{◌<◌, ◌^◌}
use Rattle.codec.specs.Codes.{Code, bytes_code, number_code, FitsText}
use Rattle.billing.specs.declared.accounts.Account.{Account}

-- the name, and the cents
abbrev pub account_code : Code Account
account_code account rest = bytes_code account.name (number_code account.cents rest)

abbrev pub FitsAccount : Account → Type 0
FitsAccount account = FitsText account.name × (account.cents < 2 ^ 64)
