mod Bytes
mod Descriptions
mod Services
mod Portions
mod Judgements
