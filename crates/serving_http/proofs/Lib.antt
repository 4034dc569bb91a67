pub mod FollowLemmas
mod OriginExamples
pub mod ResponseLemmas
mod RouteExamples
mod SiteExamples
